-- How the refusals of architecture files are printed: number, name and fields, each behind a space.
use Rattle.std.specs.Prelude.{ℕ, Bool, true, false, List, ◌++◌, codes}
use Rattle.tell.specs.Fields.{place_text, named_text, pair_text}
use Rattle.arch_rules.specs.declared.error.LimitKind.{LimitKind}
use Rattle.arch_rules.specs.declared.error.LimitKind.TheVariants.{Inputs, NumPins, NumPb, Capacity}
use Rattle.arch_files.specs.declared.error.ArchError.{ArchError}
use Rattle.arch_files.specs.declared.error.ArchError.TheVariants.{Broken, Deep, NotUtf8, UnknownElement, MissingAttr, BadNumber, SameName, Unsupported, Limit, SitePorts, NoSuchBlock, UnknownModel, OutOfMemory}

abbrev pub limit_text : LimitKind → List ℕ
limit_text Inputs = codes "inputs"
limit_text NumPins = codes "num_pins"
limit_text NumPb = codes "num_pb"
limit_text Capacity = codes "capacity"

abbrev pub arch_text : ArchError → List ℕ
arch_text (Broken place) = codes "1 Broken " ++ place_text place
arch_text Deep = codes "2 Deep"
arch_text NotUtf8 = codes "3 NotUtf8"
arch_text (UnknownElement name place) = named_text (codes "11 UnknownElement ") name place
arch_text (MissingAttr name place) = named_text (codes "12 MissingAttr ") name place
arch_text (BadNumber place) = codes "13 BadNumber " ++ place_text place
arch_text (SameName name place) = named_text (codes "14 SameName ") name place
arch_text (Unsupported what place) = named_text (codes "15 Unsupported ") what place
arch_text (Limit which place) = named_text (codes "16 Limit ") (limit_text which) place
arch_text (SitePorts tile site) = pair_text (codes "17 SitePorts ") tile site
arch_text (NoSuchBlock name) = codes "18 NoSuchBlock " ++ name
arch_text (UnknownModel name) = codes "19 UnknownModel " ++ name
arch_text OutOfMemory = codes "memory"

abbrev pub is_want_of_memory : ArchError → Bool
is_want_of_memory OutOfMemory = true
is_want_of_memory _ = false

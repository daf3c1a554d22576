-- Kinds and modes, one level opened.
use Rattle.std.proofs.Common.{◌≡◌, ◌<◌, ℕ, List, [], refl, rules}
use Rattle.arch_types.specs.declared.block.PbType.{PbType}
use Rattle.arch_types.specs.declared.block.Kind.{out-Kind}
use Rattle.arch_types.specs.declared.block.Kind.TheVariants as kind
use Rattle.arch_types.specs.declared.block.Kind.TheViews.{the_lemmas}
use Rattle.arch_types.specs.declared.block.Mode.{Mode, roll-Mode, out-Mode}
use Rattle.arch_types.specs.declared.block.Port.{Port}
use Rattle.arch_types.specs.declared.block.Inter.{Inter}
use Rattle.arch_types.specs.declared.block.Meta.{Meta}
use Rattle.arch_types.specs.Tree.{name_of_mode, kids_of, inters_of, metas_of}
use Rattle.arch_types.specs.Preorder.{inside}
use Rattle.arch_types.specs.Blocks.{FitsKind, AreModes, IsInPad, IsOutPad, IsLut, IsLatch}

module _ (models : ℕ) (name : List ℕ) (ports : List Port) where
  pub fits_in_pad : IsInPad ports → FitsKind models name ports kind.InPad
  unfolding out-Kind denote.Hole.Carrier.out
  fits_in_pad is = search (rules, the_lemmas, is)

  pub fits_out_pad : IsOutPad ports → FitsKind models name ports kind.OutPad
  unfolding out-Kind denote.Hole.Carrier.out
  fits_out_pad is = search (rules, the_lemmas, is)

  pub fits_lut : IsLut ports → FitsKind models name ports kind.Lut
  unfolding out-Kind denote.Hole.Carrier.out
  fits_lut is = search (rules, the_lemmas, is)

  pub fits_latch : IsLatch ports → FitsKind models name ports kind.Latch
  unfolding out-Kind denote.Hole.Carrier.out
  fits_latch is = search (rules, the_lemmas, is)

  pub fits_cell : (model : ℕ) → model < models → FitsKind models name ports (kind.Cell model)
  unfolding out-Kind denote.Hole.Carrier.out
  fits_cell model is = search (rules, the_lemmas, is)

  pub fits_modes : (modes : List Mode) → AreModes name modes → FitsKind models name ports (kind.Modes modes)
  unfolding out-Kind denote.Hole.Carrier.out
  fits_modes modes is = search (rules, the_lemmas, is)

abbrev pub mode_of : List ℕ → List PbType → List Inter → List Meta → Mode
mode_of name kids inters metas = roll-Mode (record { name = name; kids = kids; inters = inters; metas = metas })

module _ (name : List ℕ) (kids : List PbType) (inters : List Inter) (metas : List Meta) where
  pub name_is : name_of_mode (mode_of name kids inters metas) ≡ name
  unfolding out-Mode denote.Hole.Carrier.out
  name_is = search (rules, the_lemmas)

  pub kids_are : kids_of (mode_of name kids inters metas) ≡ kids
  unfolding out-Mode denote.Hole.Carrier.out
  kids_are = search (rules, the_lemmas)

  pub inters_are : inters_of (mode_of name kids inters metas) ≡ inters
  unfolding out-Mode denote.Hole.Carrier.out
  inters_are = search (rules, the_lemmas)

  pub metas_are : metas_of (mode_of name kids inters metas) ≡ metas
  unfolding out-Mode denote.Hole.Carrier.out
  metas_are = search (rules, the_lemmas)

module _ where
  pub inside_in_pad : inside kind.InPad ≡ []
  inside_in_pad = refl

  pub inside_out_pad : inside kind.OutPad ≡ []
  inside_out_pad = refl

  pub inside_lut : inside kind.Lut ≡ []
  inside_lut = refl

  pub inside_latch : inside kind.Latch ≡ []
  inside_latch = refl

  pub inside_cell : (model : ℕ) → inside (kind.Cell model) ≡ []
  inside_cell model = refl

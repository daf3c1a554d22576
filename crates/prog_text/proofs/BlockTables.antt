-- The tables of a graph, instance by instance.
use Rattle.std.proofs.Common.{◌≡◌, ◌<◌, ◌≤◌, ◌+◌, ◌⊎◌, inl, inr, ℕ, zero, suc, List, [], ◌∷◌, ◌++◌, Option, Some, None, length, refl, sym, ap, subst, ◌∙◌, arith}
use Rattle.std.specs.Prelude.{slice_get, IsNone, IfSome, MatchOption}
use Rattle.std.specs.Option.{option_and_then}
use Rattle.std.proofs.lemmas.Option.{slice_get_within}
use Rattle.arch_types.specs.Tree.{modes_of, kids_of, name_of_mode}
use Rattle.prog_map.proofs.Climbs.{some_injective}
use Rattle.prog_text.specs.Names.{NamesMode, NamesChild, NamesPort}
use Rattle.prog_text.proofs.Tables.{entry_found, no_entry}
use Rattle.std.proofs.lemmas.Bool.{cases_eq}
use Rattle.std.proofs.lemmas.List.{append-nil, length-append}
use Rattle.arch_types.specs.declared.block.PbType.{PbType}
use Rattle.arch_types.specs.declared.block.Mode.{Mode}
use Rattle.pb_expand.specs.declared.number.Step.{Step}
use Rattle.pb_expand.specs.Graph.{Graph, LeadsTo, block_at, mode_at}
use Rattle.pb_expand.proofs.Lists.{get_front, get_after, get_either, element}
use Rattle.prog_text.specs.declared.table.NameTable.{NameTable}
use Rattle.prog_text.specs.declared.block.BlockNames.{BlockNames}
use Rattle.prog_text.specs.declared.graph.GraphNames.{GraphNames}
use Rattle.prog_text.specs.Table.{numbered, kid_name, port_name, IsKidTable, AreKidTables, AreBlockNames, HasNames, HasNamesAt, IsHung, AreNamesUpTo}

-- the table of one more mode's children
pub kid_tables_next : (modes : List Mode) (count : ℕ) (mode : Mode) (tables more : List NameTable) (table : NameTable) → AreKidTables modes count tables →
    slice_get modes count ≡ Some mode → more ≡ tables ++ table ∷ [] → IsKidTable mode table → AreKidTables modes (count + 1) more
kid_tables_next modes count mode tables more table before at_count is kids = record {
  all = omega (arith, ap length is, length-append tables (table ∷ []), before.all);
  each = λ k m t at_k in_k. by k m t at_k (get_either tables (table ∷ []) k t (subst (λ l. slice_get l k ≡ Some t) is in_k));
}
  where
    last : (k : ℕ) (m : Mode) (t : NameTable) (j : ℕ) → slice_get modes k ≡ Some m → k ≡ length tables + j → slice_get (table ∷ []) j ≡ Some t → IsKidTable m t
    last k m t zero at_k number is_t =
        let place : count ≡ k = omega (arith, number, before.all) in
        let same : Some mode ≡ Some m = sym at_count ∙ ap (slice_get modes) place ∙ at_k in
        subst (λ x. IsKidTable m x) (cc is_t) (subst (λ x. IsKidTable x table) (cc same) kids)
    last k m t (suc j) at_k number is_t = absurd (cc)

    by : (k : ℕ) (m : Mode) (t : NameTable) → slice_get modes k ≡ Some m → (slice_get tables k ≡ Some t) ⊎ ((j : ℕ) × (k ≡ length tables + j) × (slice_get (table ∷ []) j ≡ Some t)) →
        IsKidTable m t
    by k m t at_k (inl old) = before.each k m t at_k old
    by k m t at_k (inr new) = last k m t new.0 at_k new.1 new.2

pub no_names : (g : Graph) (t : GraphNames) → t.places.items ≡ [] → t.blocks.items ≡ [] → AreNamesUpTo g 0 t
no_names g t places blocks = record {
  all = ap length places;
  few = omega (arith, ap length blocks);
  each = λ n place at_n. none n place (subst (λ l. slice_get l n ≡ Some place) places at_n);
  hung = λ n below. absurd (omega (arith, below));
}
  where
    none : {P : Type 0} (n place : ℕ) → slice_get [] n ≡ Some place → P
    none n place e = cc

-- how an instance hangs, as the graph answers
pub hung_by : (g : Graph) (n : ℕ) (r : Option Step) → (IsNone r → n ≡ 0) → IfSome r (λ s. LeadsTo g.instances s n) → IsHung g n
hung_by g n r root leads = by r root leads
  where
    by : (r : Option Step) → (IsNone r → n ≡ 0) → IfSome r (λ s. LeadsTo g.instances s n) → IsHung g n
    by None root leads = inl (root refl)
    by (Some step) root leads = inr (step, leads)

-- one more instance, which has its tables
pub next_names : (g : Graph) (count place : ℕ) (t u : GraphNames) (more : List BlockNames) → AreNamesUpTo g count t → u.places.items ≡ t.places.items ++ place ∷ [] →
    u.blocks.items ≡ t.blocks.items ++ more → length u.blocks.items < count + 2 → HasNamesAt g u count place → IsHung g count → AreNamesUpTo g (count + 1) u
next_names g count place t u more before places blocks few has hung = record {
  all = omega (arith, ap length places, length-append t.places.items (place ∷ []), before.all);
  few = omega (arith, few);
  each = λ n p at_n. by n p (get_either t.places.items (place ∷ []) n p (subst (λ l. slice_get l n ≡ Some p) places at_n));
  hung = λ n below. hung_at n below (cases_eq n count);
}
  where
    last : (n p j : ℕ) → n ≡ length t.places.items + j → slice_get (place ∷ []) j ≡ Some p → HasNamesAt g u n p
    last n p zero at is =
        let number : count ≡ n = omega (arith, at, before.all) in
        let same : place ≡ p = cc in
        subst (λ k. HasNamesAt g u k p) number (subst (λ q. HasNamesAt g u count q) same has)
    last n p (suc j) at is = absurd (cc)

    by : (n p : ℕ) → (slice_get t.places.items n ≡ Some p) ⊎ ((j : ℕ) × (n ≡ length t.places.items + j) × (slice_get (place ∷ []) j ≡ Some p)) → HasNamesAt g u n p
    by n p (inl old) =
        let is = before.each n p old in
        record { names = is.names; there = ap (λ l. slice_get l p) blocks ∙ get_front t.blocks.items more p is.names is.there; has = is.has }
    by n p (inr new) = last n p new.0 new.1 new.2

    hung_at : (n : ℕ) → n < count + 1 → (n ≡ count) ⊎ (n ≡ count → ⊥) → IsHung g n
    hung_at n below (inl same) = subst (IsHung g) (sym same) hung
    hung_at n below (inr other) = before.hung n (omega (arith, below, other))

-- the next instance has the tables of one before it that has the same pb_type
pub names_shared : (g : Graph) (count first place : ℕ) (t u : GraphNames) → AreNamesUpTo g count t → u.places.items ≡ t.places.items ++ place ∷ [] →
    u.blocks.items ≡ t.blocks.items → slice_get t.places.items first ≡ Some place → block_at g first ≡ block_at g count → IsHung g count → AreNamesUpTo g (count + 1) u
names_shared g count first place t u before places blocks at_first same hung =
    let is = before.each first place at_first in
    let has : HasNames g count is.names = record { block = is.has.block; is_block = sym same ∙ is.has.is_block; are = is.has.are } in
    next_names g count place t u [] before places (blocks ∙ sym (append-nil t.blocks.items)) (omega (arith, ap length blocks, before.few))
    (record { names = is.names; there = ap (λ l. slice_get l place) blocks ∙ is.there; has = has }) hung

-- the next instance has tables of its own
pub names_added : (g : Graph) (count : ℕ) (block : PbType) (names : BlockNames) (t u : GraphNames) → AreNamesUpTo g count t →
    u.places.items ≡ t.places.items ++ length t.blocks.items ∷ [] → u.blocks.items ≡ t.blocks.items ++ names ∷ [] → block_at g count ≡ Some block → AreBlockNames block names →
    IsHung g count → AreNamesUpTo g (count + 1) u
names_added g count block names t u before places blocks is_block are hung =
    next_names g count (length t.blocks.items) t u (names ∷ []) before places blocks
    (omega (arith, ap length blocks, length-append t.blocks.items (names ∷ []), before.few))
    (record {
      names = names;
      there = ap (λ l. slice_get l (length t.blocks.items)) blocks ∙ get_after t.blocks.items [] names (length t.blocks.items) refl;
      has = record { block = block; is_block = is_block; are = are };
    }) hung

-- what the tables of an instance hold at a name
module _ (g : Graph) (n : ℕ) (names : BlockNames) (has : HasNames g n names) (text : List ℕ) where
  mode_is : (k : ℕ) → mode_at g n k ≡ slice_get (modes_of has.block.kind) k
  mode_is k = ap (option_and_then (λ (b : PbType). slice_get (modes_of b.kind) k)) has.is_block

  pub mode_looked_up : (r : Option ℕ) → r ≡ numbered names.modes.numbers text → MatchOption r ((k : ℕ) → NamesMode g n text k → ⊥) (λ k. NamesMode g n text k)
  mode_looked_up None is = λ k named. no_entry name_of_mode (modes_of has.block.kind) names.modes.numbers text has.are.modes is k named.is (sym (mode_is k) ∙ named.there) named.spelled
  mode_looked_up (Some k) is =
      let found = entry_found name_of_mode (modes_of has.block.kind) names.modes.numbers text k has.are.modes is in
      record { is = found.0; there = mode_is k ∙ found.1; spelled = found.2 }

  pub no_such_mode : (k : ℕ) → length names.kids.items ≤ k → (child : ℕ) → NamesChild g n k text child → ⊥
  no_such_mode k past child named =
      let inside : k < length (modes_of has.block.kind) = slice_get_within (modes_of has.block.kind) k named.is_in (sym (mode_is k) ∙ named.there) in
      let all = has.are.kids.all in
      omega (arith, past, inside, all)

  pub child_looked_up : (k : ℕ) (table : NameTable) → slice_get names.kids.items k ≡ Some table → (r : Option ℕ) → r ≡ numbered table.numbers text →
      MatchOption r ((child : ℕ) → NamesChild g n k text child → ⊥) (λ child. NamesChild g n k text child)
  child_looked_up k table at_k None is = λ child named.
      let in_k : slice_get (modes_of has.block.kind) k ≡ Some named.is_in = sym (mode_is k) ∙ named.there in
      no_entry kid_name (kids_of named.is_in) table.numbers text (has.are.kids.each k named.is_in table in_k at_k) is child named.is named.is_child named.spelled
  child_looked_up k table at_k (Some child) is =
      let inside : k < length names.kids.items = slice_get_within names.kids.items k table at_k in
      let all = has.are.kids.all in
      let mode = element (modes_of has.block.kind) k (omega (arith, inside, all)) in
      let found = entry_found kid_name (kids_of mode.0) table.numbers text child (has.are.kids.each k mode.0 table mode.1 at_k) is in
      record { is_in = mode.0; there = mode_is k ∙ mode.1; is = found.0; is_child = found.1; spelled = found.2 }

  pub port_looked_up : (r : Option ℕ) → r ≡ numbered names.ports.numbers text → MatchOption r ((port : ℕ) → NamesPort g n text port → ⊥) (λ port. NamesPort g n text port)
  port_looked_up None is = λ port named.
      let same : named.block ≡ has.block = some_injective (sym named.is_block ∙ has.is_block) in
      no_entry port_name has.block.ports names.ports.numbers text has.are.ports is port named.is (ap (λ (b : PbType). slice_get b.ports port) (sym same) ∙ named.there) named.spelled
  port_looked_up (Some port) is =
      let found = entry_found port_name has.block.ports names.ports.numbers text port has.are.ports is in
      record { block = has.block; is_block = has.is_block; is = found.0; there = found.1; spelled = found.2 }

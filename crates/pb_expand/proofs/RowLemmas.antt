-- What rows say of the addresses of instances.
use Rattle.std.proofs.Common.{◌≡◌, ◌+◌, ◌<◌, ◌==◌, ◌&&◌, ℕ, zero, suc, true, List, [], ◌∷◌, ◌++◌, Option, Some, IfSome, length, get_or, slice_get, refl, sym, ap, ◌∙◌, subst, arith, length-append}
use Rattle.std.proofs.lemmas.Option.{slice_get_within, slice_get-get_or}
use Rattle.std.proofs.lemmas.Bool.Decides.{nat_tests}
use Rattle.arch_types.specs.Address.{Address, Hop, step_to}
use Rattle.arch_types.specs.declared.block.PbType.{PbType}
use Rattle.arch_types.specs.Numbering.{IsNumbering}
use Rattle.pb_expand.specs.declared.number.Step.{Step}
use Rattle.pb_expand.specs.Graph.{LeadsTo, step_from, pb_ix, hop_of}
use Rattle.pb_expand.specs.Rows.{address_by, addresses_after, addresses, IsTree}
use Rattle.pb_expand.proofs.Lists.{get_front, get_after, element, snoc_front, snoc_last}

pub length-addresses_after : (before : List Address) (rows : List Step) → length (addresses_after before rows) ≡ length before + length rows
length-addresses_after before [] = omega arith
length-addresses_after before (row ∷ rows) =
    omega (arith, length-addresses_after (before ++ address_by before row ∷ []) rows, length-append before (address_by before row ∷ []))

pub length-addresses : (rows : List Step) → length (addresses rows) ≡ 1 + length rows
length-addresses rows = length-addresses_after ([] ∷ []) rows

-- instances keep their addresses
pub addresses_keep : (before : List Address) (rows : List Step) (k : ℕ) (a : Address) → slice_get before k ≡ Some a → slice_get (addresses_after before rows) k ≡ Some a
addresses_keep before [] k a e = e
addresses_keep before (row ∷ rows) k a e =
    addresses_keep (before ++ address_by before row ∷ []) rows k a (get_front before (address_by before row ∷ []) k a e)

pub root_first : (rows : List Step) → slice_get (addresses rows) 0 ≡ Some []
root_first rows = addresses_keep ([] ∷ []) rows 0 [] refl

pub row_leads : (before : List Address) (rows : List Step) (k : ℕ) (s : Step) → slice_get rows k ≡ Some s →
    ((j : ℕ) (r : Step) → slice_get rows j ≡ Some r → r.parent.0 < length before + j) →
    LeadsTo (addresses_after before rows) s (length before + k)
row_leads before [] k s e earlier = cc
row_leads before (row ∷ rows) zero s e earlier =
    let same : row ≡ s = cc in
    let first : s.parent.0 < length before = omega (arith, earlier 0 s e) in
    let next = before ++ address_by before row ∷ [] in
    let by_row : slice_get next (length before) ≡ Some (address_by before row) = get_after before [] (address_by before row) (length before) refl in
    let by_s : slice_get next (length before) ≡ Some (address_by before s) = by_row ∙ ap (λ r. Some (address_by before r)) same in
    let here : length before + 0 ≡ length before = omega arith in
    rw here (record {
      before = first;
      parent = get_or before s.parent.0 [];
      is_parent = addresses_keep before (row ∷ rows) s.parent.0 _ (slice_get-get_or before s.parent.0 [] first);
      is_child = addresses_keep next rows (length before) (address_by before s) by_s;
    })
row_leads before (row ∷ rows) (suc k) s e earlier =
    let next = before ++ address_by before row ∷ [] in
    let longer : length next ≡ length before + 1 = length-append before (address_by before row ∷ []) in
    let more : (j : ℕ) (r : Step) → slice_get rows j ≡ Some r → r.parent.0 < length next + j = λ j r at. omega (arith, earlier (suc j) r at, longer) in
    let rest : LeadsTo (addresses_after next rows) s (length next + k) = row_leads next rows k s e more in
    let here : length next + k ≡ length before + suc k = omega (arith, longer) in
    subst (λ n. LeadsTo (addresses_after next rows) s n) here rest

-- a row says how its instance hangs on its parent
pub row_says : (rows : List Step) (k : ℕ) (s : Step) → IsTree rows → slice_get rows k ≡ Some s → LeadsTo (addresses rows) s (k + 1)
row_says rows k s tree e =
    let earlier : (j : ℕ) (r : Step) → slice_get rows j ≡ Some r → r.parent.0 < 1 + j = λ j r at. omega (arith, tree.earlier j r at) in
    let here : 1 + k ≡ k + 1 = omega arith in
    subst (λ n. LeadsTo (addresses rows) s n) here (row_leads ([] ∷ []) rows k s e earlier)

abbrev step_of : ℕ → Hop → Step
step_of parent hop = record { parent = pb_ix parent; mode = hop.mode; child = hop.child; instance = hop.instance }

-- where an instance hangs on its parent by a step, that step is its row
pub row_is : (root : PbType) (rows : List Step) (s : Step) (n : ℕ) → IsTree rows → IsNumbering root (addresses rows) →
    LeadsTo (addresses rows) s n → (k : ℕ) × (n ≡ k + 1) × (slice_get rows k ≡ Some s)
row_is root rows s zero tree numbering leads = absurd (omega (arith, leads.before))
row_is root rows s (suc k) tree numbering leads =
    let inside : k < length rows = omega (arith, slice_get_within (addresses rows) (suc k) (step_to leads.parent s.mode s.child s.instance) leads.is_child, length-addresses rows) in
    let row = element rows k inside in
    let says = row_says rows k row.0 tree row.1 in
    let here : suc k ≡ k + 1 = omega arith in
    let child : slice_get (addresses rows) (k + 1) ≡ Some (step_to leads.parent s.mode s.child s.instance) = subst (λ n. slice_get (addresses rows) n ≡ Some (step_to leads.parent s.mode s.child s.instance)) here leads.is_child in
    let same : step_to says.parent row.0.mode row.0.child row.0.instance ≡ step_to leads.parent s.mode s.child s.instance = cc (says.is_child, child) in
    let fronts : says.parent ≡ leads.parent = snoc_front says.parent leads.parent (hop_of row.0) (hop_of s) same in
    let hops : hop_of row.0 ≡ hop_of s = snoc_last says.parent leads.parent (hop_of row.0) (hop_of s) same in
    let parents : row.0.parent.0 ≡ s.parent.0 = numbering.once row.0.parent.0 s.parent.0 leads.parent (says.is_parent ∙ ap Some fronts) leads.is_parent in
    let steps : step_of row.0.parent.0 (hop_of row.0) ≡ step_of s.parent.0 (hop_of s) = cc (parents, hops) in
    (k, here, row.1 ∙ ap Some steps)

-- equal steps are one
pub one_step : (s t : Step) → ((s.parent.0 == t.parent.0) && ((s.mode == t.mode) && ((s.child == t.child) && (s.instance == t.instance)))) ≡ true → t ≡ s
one_step s t e =
    let parents : t.parent.0 ≡ s.parent.0 = grind (arith, nat_tests) in
    let modes : t.mode ≡ s.mode = grind (arith, nat_tests) in
    let children : t.child ≡ s.child = grind (arith, nat_tests) in
    let instances : t.instance ≡ s.instance = grind (arith, nat_tests) in
    let same : step_from t.parent.0 t.mode t.child t.instance ≡ step_from s.parent.0 s.mode s.child s.instance = cc in
    same

pub step_itself : (s : Step) → ((s.parent.0 == s.parent.0) && ((s.mode == s.mode) && ((s.child == s.child) && (s.instance == s.instance)))) ≡ true
step_itself s = grind (arith, nat_tests)

-- what is read at an instance's row
pub address_read : (rows : List Step) (pb place : ℕ) (r : Option Step) → IsTree rows → r ≡ slice_get rows place → pb ≡ place + 1 → pb < length (addresses rows) →
    (s : Step) × (r ≡ Some s) × LeadsTo (addresses rows) s pb
address_read rows pb place r tree read e inside =
    let row = element rows place (omega (arith, length-addresses rows)) in
    (row.0, read ∙ row.1, subst (λ n. LeadsTo (addresses rows) row.0 n) (sym e) (row_says rows place row.0 tree row.1))

pub address_leads : (rows : List Step) (pb place : ℕ) (r : Option Step) → IsTree rows → r ≡ slice_get rows place → pb ≡ place + 1 → pb < length (addresses rows) →
    IfSome r (λ s. LeadsTo (addresses rows) s pb)
address_leads rows pb place r tree read e inside =
    let row = address_read rows pb place r tree read e inside in
    subst (λ o. IfSome o (λ s. LeadsTo (addresses rows) s pb)) (sym row.1) row.2

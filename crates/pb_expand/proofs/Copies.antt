-- Rows that are copies of those of another instance.
use Rattle.std.proofs.Common.{◌≡◌, ◌+◌, ◌-◌, ◌<◌, ◌≤◌, ℕ, zero, suc, List, [], ◌∷◌, ◌++◌, Some, length, map, get_or, take, drop, slice_get, refl, sym, ap, ◌∙◌, subst, inl, inr, arith, length-append, append_assoc, drop-cons}
use Rattle.std.proofs.lemmas.List.{append-nil, append_cancel_left, map-append, length-map, drop_all, length-take-le, drop-append-le, length-drop}
use Rattle.std.proofs.lemmas.Option.{slice_get-get_or, get_or_from_slice_get, slice_get-map}
use Rattle.std.proofs.Math.Seq.{take-append_seam, drop-append-add}
use Rattle.std.specs.Option.{option_map}
use Rattle.arch_types.specs.declared.block.Kind.{Kind, Modes', Row_of-Mode, end_of-Mode, more_of-Mode}
use Rattle.arch_types.specs.declared.block.Mode.{Mode, Mode', Row_of-PbType, end_of-PbType, more_of-PbType}
use Rattle.arch_types.specs.declared.block.PbType.{PbType}
use Rattle.arch_types.proofs.TreeRows.{kids_from}
use Rattle.arch_types.specs.Address.{Address, step_to, copies, below, in_modes, in_mode, in_kids}
use Rattle.pb_expand.specs.declared.number.Step.{Step}
use Rattle.pb_expand.specs.Graph.{step_from}
use Rattle.pb_expand.specs.Rows.{address_by, addresses_after, addresses, moved, IsTree, GoesOn, EndsWith}
use Rattle.pb_expand.proofs.Lists.{get_front, get_after, get_behind, get_either, element}
use Rattle.pb_expand.proofs.RowLemmas.{length-addresses}
use Rattle.pb_expand.proofs.Grows.{Grew, grew_starts, grew_by, grew_here, grew_below, grew_ends, grew_count, addresses-push, last_address, kids_at, kids_begin, kid_end, kid_pushed, no_room_below}

-- these addresses, each from this one on
abbrev pub from : Address → List Address → List Address
from here xs = map (λ a. here ++ a) xs

from_step : (here a : Address) (mode child n : ℕ) → step_to (here ++ a) mode child n ≡ here ++ step_to a mode child n
from_step here a mode child n = append_assoc here a (record { mode = mode; child = child; instance = n } ∷ [])

from_both : (here : Address) (xs bs cs ds : List Address) → xs ≡ from here cs → bs ≡ from here ds → xs ++ bs ≡ from here (cs ++ ds)
from_both here xs bs cs ds e f = ap (λ l. l ++ bs) e ∙ ap (λ ys. from here cs ++ ys) f ∙ sym (map-append (λ a. here ++ a) cs ds)

copies_from : (under : Address → List Address) → ((here a : Address) → under (here ++ a) ≡ from here (under a)) → (mode child n k : ℕ) (here a : Address) →
    copies under mode child n k (here ++ a) ≡ from here (copies under mode child n k a)
copies_from under goes mode child n zero here a = refl
copies_from under goes mode child n (suc k) here a =
    let step = from_step here a mode child n in
    let first : under (step_to (here ++ a) mode child n) ≡ from here (under (step_to a mode child n)) = ap under step ∙ goes here (step_to a mode child n) in
    let rest = from_both here _ _ _ _ first (copies_from under goes mode child (n + 1) k here a) in
    ap (λ x. x ∷ (under (step_to (here ++ a) mode child n) ++ copies under mode child (n + 1) k (here ++ a))) step
    ∙ ap (λ l. (here ++ step_to a mode child n) ∷ l) rest

-- what stands below an instance goes on from its address
mutual
  pub below_from : (kind : Kind) (here a : Address) → below kind (here ++ a) ≡ from here (below kind a)
  below_from (Modes' n modes) here a = modes_from_address modes 0 here a
  below_from _ here a = refl

  modes_from_address : {m : _} (row : Row_of-Mode m) (mode : ℕ) (here a : Address) → in_modes row mode (here ++ a) ≡ from here (in_modes row mode a)
  modes_from_address end_of-Mode mode here a = refl
  modes_from_address (more_of-Mode m rest) mode here a = from_both here _ _ _ _ (mode_from_address m mode here a) (modes_from_address rest (mode + 1) here a)

  mode_from_address : (m : Mode) (mode : ℕ) (here a : Address) → in_mode m mode (here ++ a) ≡ from here (in_mode m mode a)
  mode_from_address (Mode' name n kids inters metas) mode here a = kids_from_address kids mode 0 here a

  kids_from_address : {m : _} (row : Row_of-PbType m) (mode child : ℕ) (here a : Address) → in_kids row mode child (here ++ a) ≡ from here (in_kids row mode child a)
  kids_from_address end_of-PbType mode child here a = refl
  kids_from_address (more_of-PbType name count ports kind metas rest) mode child here a =
      from_both here _ _ _ _ (copies_from (λ b. below kind b) (λ b c. below_from kind b c) mode child 0 count here a)
      (kids_from_address rest mode (child + 1) here a)

-- an instance and those below it
pub below_is_from : (kind : Kind) (a : Address) → a ∷ below kind a ≡ from a ([] ∷ below kind [])
below_is_from kind a =
    let whole = append-nil a in
    ap (λ x. x ∷ below kind a) (sym whole) ∙ ap (λ l. (a ++ []) ∷ l) (ap (λ x. below kind x) (sym whole) ∙ below_from kind a [])

from_once : (here : Address) (xs bs : List Address) → from here xs ≡ from here bs → xs ≡ bs
from_once here [] [] e = refl
from_once here [] (b ∷ bs) e = cc
from_once here (a ∷ xs) [] e = cc
from_once here (a ∷ xs) (b ∷ bs) e =
    let heads : here ++ a ≡ here ++ b = cc in
    let tails : from here xs ≡ from here bs = cc in
    let rest = from_once here xs bs tails in
    let same = append_cancel_left here a b heads in
    ap (λ x. x ∷ xs) same ∙ ap (λ l. b ∷ l) rest

-- a row whose parent is counted from this place on
abbrev pub lowered : ℕ → Step → Step
lowered place s = step_from (s.parent.0 - place) s.mode s.child s.instance

read_from : (front : List Address) (here : Address) (xs : List Address) (k : ℕ) → length front ≤ k → k < length front + length xs →
    get_or (front ++ from here xs) k [] ≡ here ++ get_or xs (k - length front) []
read_from front here xs k low high =
    let back : length front + (k - length front) ≡ k = omega arith in
    let read = slice_get-get_or xs (k - length front) [] (omega arith) in
    let mapped = slice_get-map (λ a. here ++ a) xs (k - length front) ∙ ap (option_map (λ a. here ++ a)) read in
    get_or_from_slice_get (front ++ from here xs) k (here ++ get_or xs (k - length front) []) []
    (ap (λ n. slice_get (front ++ from here xs) n) (sym back) ∙ get_behind front (from here xs) (k - length front) _ mapped)

-- rows that hang on instances from a place on make addresses that go on from there
pub addresses_lowered : (front : List Address) (here : Address) (xs : List Address) (rows : List Step) →
    ((k : ℕ) (s : Step) → slice_get rows k ≡ Some s → length front ≤ s.parent.0) →
    ((k : ℕ) (s : Step) → slice_get rows k ≡ Some s → s.parent.0 < length front + length xs + k) →
    addresses_after (front ++ from here xs) rows ≡ front ++ from here (addresses_after xs (map (lowered (length front)) rows))
addresses_lowered front here xs [] low high = refl
addresses_lowered front here xs (s ∷ rows) low high =
    let p = s.parent.0 - length front in
    let one = step_to (get_or xs p []) s.mode s.child s.instance in
    let at_first : s.parent.0 < length front + length xs + 0 = high 0 s refl in
    let read = read_from front here xs s.parent.0 (low 0 s refl) (omega arith) in
    let made : address_by (front ++ from here xs) s ≡ here ++ one = ap (λ a. step_to a s.mode s.child s.instance) read ∙ from_step here (get_or xs p []) s.mode s.child s.instance in
    let longer : length (xs ++ one ∷ []) ≡ length xs + 1 = length-append xs (one ∷ []) in
    let next : (front ++ from here xs) ++ address_by (front ++ from here xs) s ∷ [] ≡ front ++ from here (xs ++ one ∷ []) =
    append_assoc front (from here xs) (address_by (front ++ from here xs) s ∷ [])
    ∙ ap (λ a. front ++ (from here xs ++ a ∷ [])) made ∙ ap (λ l. front ++ l) (sym (map-append (λ a. here ++ a) xs (one ∷ []))) in
    ap (λ l. addresses_after l rows) next
    ∙ addresses_lowered front here (xs ++ one ∷ []) rows (λ k r at. low (suc k) r at) (λ k r at. omega (arith, high (suc k) r at, longer))

addresses_after-append : (before : List Address) (rows more : List Step) → addresses_after before (rows ++ more) ≡ addresses_after (addresses_after before rows) more
addresses_after-append before [] more = refl
addresses_after-append before (row ∷ rows) more = addresses_after-append (before ++ address_by before row ∷ []) rows more

pub addresses-append : (rows more : List Step) → addresses (rows ++ more) ≡ addresses_after (addresses rows) more
addresses-append rows more = addresses_after-append ([] ∷ []) rows more

-- the addresses of an instance and of those below it are the ones of their rows, counted from the instance on
pub addresses_below : (rows : List Step) (own : Step) (more : List Step) → IsTree (rows ++ own ∷ more) →
    ((k : ℕ) (s : Step) → slice_get more k ≡ Some s → length rows + 1 ≤ s.parent.0) →
    addresses (rows ++ own ∷ more)
    ≡ addresses rows ++ from (address_by (addresses rows) own) (addresses_after ([] ∷ []) (map (lowered (length rows + 1)) more))
addresses_below rows own more tree later =
    let front = addresses rows in
    let a = address_by front own in
    let size : length front ≡ length rows + 1 = omega (arith, length-addresses rows) in
    let behind : (k : ℕ) (s : Step) → slice_get more k ≡ Some s → s.parent.0 < length front + 1 + k =
    λ k s at. omega (arith, size, tree.earlier (length rows + suc k) s (get_behind rows (own ∷ more) (suc k) s at)) in
    addresses-append rows (own ∷ more)
    ∙ ap (λ x. addresses_after (front ++ x ∷ []) more) (sym (append-nil a))
    ∙ addresses_lowered front a ([] ∷ []) more (λ k s at. omega (arith, size, later k s at)) behind
    ∙ ap (λ n. front ++ from a (addresses_after ([] ∷ []) (map (lowered n) more))) size

lowered_moved : (place further : ℕ) (rows : List Step) → map (lowered (place + further)) (map (moved further) rows) ≡ map (lowered place) rows
lowered_moved place further [] = refl
lowered_moved place further (s ∷ rows) =
    let same : s.parent.0 + further - (place + further) ≡ s.parent.0 - place = omega arith in
    ap (λ n. step_from n s.mode s.child s.instance ∷ map (lowered (place + further)) (map (moved further) rows)) same
    ∙ ap (λ l. lowered place s ∷ l) (lowered_moved place further rows)

of_moved : (further : ℕ) (rows : List Step) (k : ℕ) (r : Step) → slice_get (map (moved further) rows) k ≡ Some r →
    (s : Step) × (slice_get rows k ≡ Some s) × (r.parent.0 ≡ s.parent.0 + further)
of_moved further [] k r at = cc
of_moved further (s ∷ rows) zero r at = let same : moved further s ≡ r = cc in (s, refl, ap (λ (x : Step). x.parent.0) (sym same))
of_moved further (s ∷ rows) (suc k) r at = of_moved further rows k r at

-- rows that end with an instance's own and those below it
pub record IsRun (before more : List Step) (own : Step) (kind : Kind) : Type 0 where
  pub tree : IsTree (before ++ own ∷ more)
  pub later : (k : ℕ) (s : Step) → slice_get more k ≡ Some s → length before + 1 ≤ s.parent.0
  pub under : addresses (before ++ own ∷ more) ≡ addresses before ++ address_by (addresses before) own ∷ below kind (address_by (addresses before) own)

-- counted from their instance on, these rows are those of the block
run_shape : (before more : List Step) (own : Step) (kind : Kind) → IsRun before more own kind →
    addresses_after ([] ∷ []) (map (lowered (length before + 1)) more) ≡ [] ∷ below kind []
run_shape before more own kind run =
    let a = address_by (addresses before) own in
    let shape = addresses_after ([] ∷ []) (map (lowered (length before + 1)) more) in
    from_once a shape ([] ∷ below kind [])
    (append_cancel_left (addresses before) (from a shape) (from a ([] ∷ below kind []))
    (sym (addresses_below before own more run.tree run.later) ∙ run.under ∙ ap (λ l. addresses before ++ l) (below_is_from kind a)))

copy_later : (before more : List Step) (own : Step) (kind : Kind) (further : ℕ) → IsRun before more own kind →
    (k : ℕ) (s : Step) → slice_get (map (moved further) more) k ≡ Some s → length before + 1 + further ≤ s.parent.0
copy_later before more own kind further run k s at = let r = of_moved further more k s at in omega (arith, run.later k r.0 r.1, r.2)

copy_tree : (before more : List Step) (own : Step) (kind : Kind) (rows : List Step) (other : Step) (further : ℕ) → IsRun before more own kind → IsTree rows →
    length rows ≡ length before + further → other.parent.0 ≤ length rows → IsTree (rows ++ other ∷ map (moved further) more)
copy_tree before more own kind rows other further run tree size low = record {
  earlier = λ k r at. elim (get_either rows (other ∷ map (moved further) more) k r at) [ inl e ↦ tree.earlier k r e | inr h ↦ behind k r h.0 h.1 h.2 ];
}
  where
    behind : (k : ℕ) (r : Step) (j : ℕ) → k ≡ length rows + j → slice_get (other ∷ map (moved further) more) j ≡ Some r → r.parent.0 ≤ k
    behind k r zero e at = let same : other ≡ r = cc in subst (λ (x : Step). x.parent.0 ≤ k) same (omega arith)
    behind k r (suc j) e at =
        let s = of_moved further more j r at in
        omega (arith, s.2, run.tree.earlier (length before + suc j) s.0 (get_behind before (own ∷ more) (suc j) s.0 s.1))

-- a copy of these rows makes the addresses that the block has below the copy's
pub copy_under : (before more : List Step) (own : Step) (kind : Kind) (rows : List Step) (other : Step) (further : ℕ) → IsRun before more own kind → IsTree rows →
    length rows ≡ length before + further → other.parent.0 ≤ length rows → IsRun rows (map (moved further) more) other kind
copy_under before more own kind rows other further run tree size low =
    let copy = map (moved further) more in
    let whole = copy_tree before more own kind rows other further run tree size low in
    let later : (k : ℕ) (s : Step) → slice_get copy k ≡ Some s → length rows + 1 ≤ s.parent.0 = λ k s at. omega (arith, copy_later before more own kind further run k s at) in
    let a = address_by (addresses rows) other in
    let place : length rows + 1 ≡ length before + 1 + further = omega arith in
    record {
      tree = whole;
      later = later;
      under = addresses_below rows other copy whole later
          ∙ ap (λ n. addresses rows ++ from a (addresses_after ([] ∷ []) (map (lowered n) copy))) place
          ∙ ap (λ l. addresses rows ++ from a (addresses_after ([] ∷ []) l)) (lowered_moved (length before + 1) further more)
          ∙ ap (λ l. addresses rows ++ from a l) (run_shape before more own kind run)
          ∙ ap (λ l. addresses rows ++ l) (sym (below_is_from kind a));
    }

pub goes_starts : (old : List Step) (here : ℕ) → GoesOn old old here
goes_starts old here = record { more = []; is = sym (append-nil old); later = λ k s at. cc }

-- rows that go on from rows that go on
pub goes_then : (old rows all : List Step) (here there : ℕ) → GoesOn old rows here → GoesOn rows all there → here ≤ there → GoesOn old all here
goes_then old rows all here there one other low = record {
  more = one.more ++ other.more;
  is = other.is ∙ ap (λ l. l ++ other.more) one.is ∙ append_assoc old one.more other.more;
  later = λ k s at. elim (get_either one.more other.more k s at) [ inl e ↦ one.later k s e | inr h ↦ omega (arith, other.later h.0 s h.2) ];
}

row_later : (s : Step) (rows : List Step) (here : ℕ) → here ≤ s.parent.0 → ((k : ℕ) (r : Step) → slice_get rows k ≡ Some r → here ≤ r.parent.0) →
    (k : ℕ) (r : Step) → slice_get (s ∷ rows) k ≡ Some r → here ≤ r.parent.0
row_later s rows here low later zero r at = let same : s ≡ r = cc in subst (λ (x : Step). here ≤ x.parent.0) same low
row_later s rows here low later (suc k) r at = later k r at

pub goes_row : (rows more : List Step) (s : Step) (here : ℕ) → more ≡ rows ++ s ∷ [] → here ≤ s.parent.0 → GoesOn rows more here
goes_row rows more s here e low = record { more = s ∷ []; is = e; later = row_later s [] here low (λ k r at. cc) }

-- what stands behind the row of an instance, once the rows below it were added
pub ends_with : (before one rows : List Step) (own : Step) (number : ℕ) (kind : Kind) → one ≡ before ++ own ∷ [] → number ≡ length one → GoesOn one rows number →
    addresses rows ≡ addresses one ++ below kind (get_or (addresses one) number []) → EndsWith rows own number kind
ends_with before one rows own number kind e place goes adds =
    let a = address_by (addresses before) own in
    let reads : get_or (addresses one) number [] ≡ a = ap (λ n. get_or (addresses one) n []) place ∙ last_address before one own (get_or (addresses before) own.parent.0 []) a e refl refl in
    record {
      before = before;
      more = goes.more;
      is = goes.is ∙ ap (λ l. l ++ goes.more) e ∙ append_assoc before (own ∷ []) goes.more;
      place = omega (arith, ap length e, length-append before (own ∷ []));
      later = goes.later;
      under = adds ∙ ap (λ x. addresses one ++ below kind x) reads ∙ ap (λ l. l ++ below kind a) (ap addresses e ∙ addresses-push before own)
          ∙ append_assoc (addresses before) (a ∷ []) (below kind a);
    }

pub run_of : (rows : List Step) (own : Step) (number : ℕ) (kind : Kind) (ends : EndsWith rows own number kind) → IsTree rows → IsRun ends.before ends.more own kind
run_of rows own number kind ends tree = record {
  tree = subst IsTree ends.is tree;
  later = λ k s at. omega (arith, ends.place, ends.later k s at);
  under = ap addresses (sym ends.is) ∙ ends.under;
}

abbrev pub others : Kind → Step → ℕ → ℕ → Address → List Address
others kind step n k here = copies (λ a. below kind a) step.mode step.child n k here

-- the rows are those that were there and some copies, and copies are still to come
pub record Copied (old rows : List Step) (step : Step) (kind : Kind) (n count : ℕ) : Type 0 where
  pub grew : Grew old rows (others kind step n (count - n) (get_or (addresses old) step.parent.0 [])) (others kind step 1 (count - 1) (get_or (addresses old) step.parent.0 []))
  pub goes : GoesOn old rows step.parent.0

pub copied_starts : (old : List Step) (step : Step) (kind : Kind) (count : ℕ) → IsTree old → Copied old old step kind 1 count
copied_starts old step kind count tree = record {
  grew = grew_starts old (others kind step 1 (count - 1) (get_or (addresses old) step.parent.0 [])) tree;
  goes = goes_starts old step.parent.0;
}

-- the rows to be copied stand where they stood
pub run_again : (old rows : List Step) (step : Step) (number end here : ℕ) (kind : Kind) (ends : EndsWith old step number kind) → GoesOn old rows here → end ≡ length old →
    drop number (take end rows) ≡ ends.more
run_again old rows step number end here kind ends goes last =
    ap (λ n. drop number (take n rows)) last ∙ ap (λ l. drop number (take (length old) l)) goes.is ∙ ap (drop number) (take-append_seam old goes.more)
    ∙ ap (drop number) ends.is ∙ ap (λ n. drop n (ends.before ++ step ∷ ends.more)) ends.place ∙ drop-append-add ends.before (step ∷ ends.more) 1

own_low : (old : List Step) (step : Step) (number : ℕ) (kind : Kind) (ends : EndsWith old step number kind) → IsTree old → step.parent.0 ≤ length ends.before
own_low old step number kind ends tree =
    tree.earlier (length ends.before) step (ap (λ l. slice_get l (length ends.before)) ends.is ∙ get_after ends.before ends.more step (length ends.before) refl)

ends_size : (old : List Step) (step : Step) (number : ℕ) (kind : Kind) (ends : EndsWith old step number kind) → length old ≡ number + length ends.more
ends_size old step number kind ends = omega (arith, ends.place, ap length ends.is, length-append ends.before (step ∷ ends.more))

-- one copy more
pub copied_more : (old rows all : List Step) (step : Step) (number end : ℕ) (kind : Kind) (n count : ℕ) → IsTree old → EndsWith old step number kind →
    Copied old rows step kind n count → n < count → end ≡ length old → length all ≤ 1048575 →
    all ≡ rows ++ step_from step.parent.0 step.mode step.child n ∷ map (moved (length rows + 1 - number)) (drop number (take end rows)) →
    Copied old all step kind (n + 1) count
copied_more old rows all step number end kind n count tree ends copied more last few e =
    let here = get_or (addresses old) step.parent.0 [] in
    let own = step_from step.parent.0 step.mode step.child n in
    let further = length rows + 1 - number in
    let a = step_to here step.mode step.child n in
    let low = own_low old step number kind ends tree in
    let size = ends_size old step number kind ends in
    let run = run_of old step number kind ends tree in
    let to_come = others kind step (n + 1) (count - (n + 1)) here in
    let every = others kind step 1 (count - 1) here in
    let counted : count - n ≡ suc (count - (n + 1)) = omega arith in
    let opened = grew_by old rows (others kind step n (count - n) here) ((a ∷ below kind a) ++ to_come) every copied.grew (ap (λ k. others kind step n k here) counted) in
    let reads = grew_here old rows ((a ∷ below kind a) ++ to_come) every step.parent.0 opened (omega (arith, ends.place)) in
    let is : all ≡ rows ++ own ∷ map (moved further) ends.more =
    e ∙ ap (λ l. rows ++ own ∷ map (moved further) l) (run_again old rows step number end step.parent.0 kind ends copied.goes last) in
    let longer : length rows ≡ length ends.before + further = omega (arith, ends.place, copied.grew.longer) in
    let copy = copy_under ends.before ends.more step kind rows own further run copied.grew.tree longer (omega (arith, ends.place, copied.grew.longer)) in
    let later = row_later own (map (moved further) ends.more) step.parent.0 (omega arith) (λ k s at. omega (arith, ends.place, copied.grew.longer, size, copy.later k s at)) in
    record {
      grew = grew_below old rows all (a ∷ below kind a) to_come every opened
          (ap addresses is ∙ copy.under ∙ ap (λ x. addresses rows ++ step_to x step.mode step.child n ∷ below kind (step_to x step.mode step.child n)) reads)
          (subst IsTree (sym is) copy.tree) (λ h. few);
      goes = goes_then old rows all step.parent.0 step.parent.0 copied.goes (record { more = own ∷ map (moved further) ends.more; is = is; later = later }) (omega arith);
    }

pub copied_ends : (old rows : List Step) (step : Step) (kind : Kind) (n count : ℕ) → Copied old rows step kind n count → count ≤ n →
    addresses rows ≡ addresses old ++ others kind step 1 (count - 1) (get_or (addresses old) step.parent.0 [])
copied_ends old rows step kind n count copied done =
    let here = get_or (addresses old) step.parent.0 [] in
    let every = others kind step 1 (count - 1) here in
    let none : count - n ≡ 0 = omega arith in
    grew_ends old rows every (grew_by old rows (others kind step n (count - n) here) [] every copied.grew (ap (λ k. others kind step n k here) none))

below_size : (kind : Kind) (a : Address) → length (below kind a) ≡ length (below kind [])
below_size kind a = omega (arith, ap length (below_is_from kind a), length-map ([] ∷ below kind []) (λ b. a ++ b))

run_size : (before more : List Step) (own : Step) (kind : Kind) → IsRun before more own kind → (a : Address) → length more ≡ length (below kind a)
run_size before more own kind run a =
    let b = address_by (addresses before) own in
    omega (
      arith,
      below_size kind a,
      below_size kind b,
      ap length run.under,
      length-addresses (before ++ own ∷ more),
      length-append before (own ∷ more),
      length-append (addresses before) (b ∷ below kind b),
      length-addresses before,
    )

-- where there is no room for a copy, too many were to be added
pub copied_no_room : (old rows : List Step) (step : Step) (number end : ℕ) (kind : Kind) (n count : ℕ) → IsTree old → EndsWith old step number kind →
    Copied old rows step kind n count → n < count → end ≡ length old → 1048575 < length rows + 1 + (end - number) →
    1048575 < length old + length (others kind step 1 (count - 1) (get_or (addresses old) step.parent.0 []))
copied_no_room old rows step number end kind n count tree ends copied more last full =
    let here = get_or (addresses old) step.parent.0 [] in
    let a = step_to here step.mode step.child n in
    let to_come = others kind step (n + 1) (count - (n + 1)) here in
    let every = others kind step 1 (count - 1) here in
    let counted : count - n ≡ suc (count - (n + 1)) = omega arith in
    let opened = grew_by old rows (others kind step n (count - n) here) ((a ∷ below kind a) ++ to_come) every copied.grew (ap (λ k. others kind step n k here) counted) in
    let size = ends_size old step number kind ends in
    let under = run_size ends.before ends.more step kind (run_of old step number kind ends tree) a in
    omega (arith, grew_count old rows ((a ∷ below kind a) ++ to_come) every opened, length-append (a ∷ below kind a) to_come, under)

-- the rows that were there, an instance's own, and copies of those from another one's number up to a place
pub record IsCopying (old rows : List Step) (own : Step) (other place : ℕ) : Type 0 where
  pub is : rows ≡ old ++ own ∷ map (moved (length old + 1 - other)) (drop other (take place old))
  pub few : length rows ≤ 1048575

pub copying_starts : (old rows : List Step) (own : Step) (other : ℕ) → rows ≡ old ++ own ∷ [] → length rows ≤ 1048575 → other ≤ length old → IsCopying old rows own other other
copying_starts old rows own other e few inside =
    let none : drop other (take other old) ≡ [] = drop_all other (take other old) (omega (arith, length-take-le other old inside)) in
    record { is = e ∙ ap (λ l. old ++ own ∷ map (moved (length old + 1 - other)) l) (sym none); few = few }

take_one : (rows : List Step) (k : ℕ) (s : Step) → slice_get rows k ≡ Some s → take (suc k) rows ≡ take k rows ++ s ∷ []
take_one [] k s at = cc
take_one (r ∷ rows) zero s at = let same : r ≡ s = cc in ap (λ x. x ∷ []) same
take_one (r ∷ rows) (suc k) s at = ap (λ l. r ∷ l) (take_one rows k s at)

-- the row that is read is one that was there
pub copying_row : (old rows : List Step) (own : Step) (other place : ℕ) (row : Step) → IsCopying old rows own other place → place < length old →
    row ≡ get_or rows place row → slice_get old place ≡ Some row
copying_row old rows own other place row copying inside read =
    let x = element old place inside in
    let there : slice_get rows place ≡ Some x.0 = ap (λ l. slice_get l place) copying.is ∙ get_front old _ place x.0 x.1 in
    x.1 ∙ ap Some (sym (read ∙ get_or_from_slice_get rows place x.0 row there))

pub copying_more : (old rows all : List Step) (own : Step) (other place further : ℕ) (row : Step) → IsCopying old rows own other place → other ≤ place →
    place < length old → row ≡ get_or rows place row → further ≡ length old + 1 - other →
    all ≡ rows ++ step_from (row.parent.0 + further) row.mode row.child row.instance ∷ [] → length all ≤ 1048575 → IsCopying old all own other (place + 1)
copying_more old rows all own other place further row copying low inside read is e few =
    let next : suc place ≡ place + 1 = omega arith in
    let so_far = drop other (take place old) in
    let more = take_one old place row (copying_row old rows own other place row copying inside read) in
    let cut : drop other (take (place + 1) old) ≡ so_far ++ row ∷ [] =
    ap (λ n. drop other (take n old)) (sym next) ∙ ap (drop other) more
    ∙ drop-append-le other (take place old) (row ∷ []) (omega (arith, length-take-le place old (omega arith))) in
    record {
      is = e ∙ ap (λ n. rows ++ step_from (row.parent.0 + n) row.mode row.child row.instance ∷ []) is
          ∙ ap (λ l. l ++ moved (length old + 1 - other) row ∷ []) copying.is
          ∙ append_assoc old (own ∷ map (moved (length old + 1 - other)) so_far) (moved (length old + 1 - other) row ∷ [])
          ∙ ap (λ l. old ++ own ∷ l) (sym (map-append (moved (length old + 1 - other)) so_far (row ∷ [])))
          ∙ ap (λ l. old ++ own ∷ map (moved (length old + 1 - other)) l) (sym cut);
      few = few;
    }

pub copying_size : (old rows : List Step) (own : Step) (other place : ℕ) → IsCopying old rows own other place → other ≤ place → place ≤ length old →
    length rows ≡ length old + 1 + (place - other)
copying_size old rows own other place copying low inside =
    let further = length old + 1 - other in
    let so_far = drop other (take place old) in
    omega (
      arith,
      ap length copying.is,
      length-append old (own ∷ map (moved further) so_far),
      length-map so_far (moved further),
      length-drop other (take place old),
      length-take-le place old inside,
    )

-- the rows have grown by instances below this one
pub record Went (old rows : List Step) (here : ℕ) (to_come all : List Address) : Type 0 where
  pub grew : Grew old rows to_come all
  pub goes : GoesOn old rows here

-- a child begins with its first instance
pub kid_opens : (old rows : List Step) (kids : List PbType) (mode child : ℕ) (here : Address) (tail all : List Address) →
    Grew old rows (kids_from (drop child kids) mode child here ++ tail) all → Grew old rows (kids_at (drop child kids) mode child 0 here ++ tail) all
kid_opens old rows kids mode child here tail all grew =
    grew_by old rows (kids_from (drop child kids) mode child here ++ tail) (kids_at (drop child kids) mode child 0 here ++ tail) all grew
    (ap (λ l. l ++ tail) (sym (kids_begin (drop child kids) mode child here)))

kid_others : (kids : List PbType) (mode child n : ℕ) (here : Address) (kid : PbType) → child < length kids → kid ≡ get_or kids child kid →
    kids_at (drop child kids) mode child n here ≡ copies (λ a. below kid.kind a) mode child n (kid.count - n) here ++ kids_from (drop (child + 1) kids) mode (child + 1) here
kid_others kids mode child n here kid inside e =
    let cut : drop child kids ≡ kid ∷ drop (suc child) kids = drop-cons kids child kid inside ∙ ap (λ x. x ∷ drop (suc child) kids) (sym e) in
    let next : suc child ≡ child + 1 = omega arith in
    ap (λ ks. kids_at ks mode child n here) cut
    ∙ ap (λ k. copies (λ a. below kid.kind a) mode child n (kid.count - n) here ++ kids_from (drop k kids) mode (child + 1) here) next

-- a child of no instances adds nothing
pub kid_none : (old rows : List Step) (parent : ℕ) (kids : List PbType) (mode child : ℕ) (here : Address) (kid : PbType) (tail all : List Address) →
    Went old rows parent (kids_from (drop child kids) mode child here ++ tail) all → child < length kids → kid ≡ get_or kids child kid → kid.count ≤ 0 →
    Went old rows parent (kids_from (drop (child + 1) kids) mode (child + 1) here ++ tail) all
kid_none old rows parent kids mode child here kid tail all went inside e none = record {
  grew = grew_by old rows (kids_at (drop child kids) mode child 0 here ++ tail) (kids_from (drop (child + 1) kids) mode (child + 1) here ++ tail) all
      (kid_opens old rows kids mode child here tail all went.grew) (ap (λ l. l ++ tail) (kid_end kids mode child 0 here kid inside e none));
  goes = went.goes;
}

-- the first instance of a child stands, with all below it
pub record HasFirst (old rows : List Step) (parent mode child : ℕ) (here : Address) (kids : List PbType) (kid : PbType) (tail all : List Address) : Type 0 where
  pub grew : Grew old rows (copies (λ a. below kid.kind a) mode child 1 (kid.count - 1) here ++ (kids_from (drop (child + 1) kids) mode (child + 1) here ++ tail)) all
  pub goes : GoesOn old rows parent
  pub reads : get_or (addresses rows) parent [] ≡ here

pub has_first : (old before one rows : List Step) (parent mode child number : ℕ) (here : Address) (kids : List PbType) (kid : PbType) (tail all : List Address) →
    Went old before parent (kids_from (drop child kids) mode child here ++ tail) all → child < length kids → kid ≡ get_or kids child kid → 0 < kid.count →
    parent ≤ length old → get_or (addresses old) parent [] ≡ here → one ≡ before ++ step_from parent mode child 0 ∷ [] → length one ≤ 1048575 → number ≡ length one →
    IsTree rows → GoesOn one rows number → addresses rows ≡ addresses one ++ below kid.kind (get_or (addresses one) number []) →
    (length one ≤ 1048575 → length rows ≤ 1048575) → HasFirst old rows parent mode child here kids kid tail all
has_first old before one rows parent mode child number here kids kid tail all went inside e counted low at added few place tree goes adds fewer =
    let pushed = kid_pushed old before one parent mode child 0 here kids kid tail all (kid_opens old before kids mode child here tail all went.grew) inside e counted low at added few in
    let first = step_to here mode child 0 in
    let behind = kids_at (drop child kids) mode child 1 here in
    let others = copies (λ a. below kid.kind a) mode child 1 (kid.count - 1) here in
    let rest = kids_from (drop (child + 1) kids) mode (child + 1) here in
    let address : get_or (addresses one) number [] ≡ first = ap (λ n. get_or (addresses one) n []) place ∙ pushed.address in
    let whole = grew_below old one rows (below kid.kind first) (behind ++ tail) all pushed.grew (adds ∙ ap (λ a. addresses one ++ below kid.kind a) address) tree fewer in
    let grown = grew_by old rows (behind ++ tail) (others ++ (rest ++ tail)) all whole
    (ap (λ l. l ++ tail) (kid_others kids mode child 1 here kid inside e) ∙ append_assoc others rest tail) in
    record {
      grew = grown;
      goes = goes_then old one rows parent number (goes_then old before one parent parent went.goes (goes_row before one (step_from parent mode child 0) parent added (omega arith)) (omega arith))
          goes (omega (arith, place, ap length added, length-append before (step_from parent mode child 0 ∷ []), went.grew.longer));
      reads = grew_here old rows (others ++ (rest ++ tail)) all parent grown low ∙ at;
    }

-- all instances of a child stand
pub has_others : (old whole rows : List Step) (parent mode child : ℕ) (here : Address) (kids : List PbType) (kid : PbType) (tail all : List Address) →
    HasFirst old whole parent mode child here kids kid tail all → IsTree rows → GoesOn whole rows parent →
    addresses rows ≡ addresses whole ++ copies (λ a. below kid.kind a) mode child 1 (kid.count - 1) (get_or (addresses whole) parent []) →
    (length whole ≤ 1048575 → length rows ≤ 1048575) → Went old rows parent (kids_from (drop (child + 1) kids) mode (child + 1) here ++ tail) all
has_others old whole rows parent mode child here kids kid tail all first tree goes adds few = record {
  grew = grew_below old whole rows (copies (λ a. below kid.kind a) mode child 1 (kid.count - 1) here) (kids_from (drop (child + 1) kids) mode (child + 1) here ++ tail) all
      first.grew (adds ∙ ap (λ a. addresses whole ++ copies (λ b. below kid.kind b) mode child 1 (kid.count - 1) a) first.reads) tree few;
  goes = goes_then old whole rows parent parent first.goes goes (omega arith);
}

-- where there is no room for the others, too many were to be added
pub others_no_room : (old whole : List Step) (parent mode child : ℕ) (here : Address) (kids : List PbType) (kid : PbType) (tail all : List Address) →
    HasFirst old whole parent mode child here kids kid tail all →
    1048575 < length whole + length (copies (λ a. below kid.kind a) mode child 1 (kid.count - 1) (get_or (addresses whole) parent [])) →
    1048575 < length old + length all
others_no_room old whole parent mode child here kids kid tail all first full =
    no_room_below old whole (copies (λ a. below kid.kind a) mode child 1 (kid.count - 1) here) (kids_from (drop (child + 1) kids) mode (child + 1) here ++ tail) all first.grew
    (subst (λ a. 1048575 < length whole + length (copies (λ b. below kid.kind b) mode child 1 (kid.count - 1) a)) first.reads full)

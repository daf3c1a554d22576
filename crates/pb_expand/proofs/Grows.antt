-- Rows that grow by the instances below one: what was pushed, and what is still to come.
use Rattle.std.proofs.Common.{◌≡◌, ◌+◌, ◌-◌, ◌<◌, ◌≤◌, ℕ, zero, suc, List, [], ◌∷◌, ◌++◌, Some, length, get_or, drop, slice_get, refl, sym, ap, ◌∙◌, subst, inl, inr, arith, length-append, append_assoc, drop-cons}
use Rattle.std.proofs.lemmas.List.{append-nil, drop_all}
use Rattle.std.proofs.lemmas.Option.{slice_get-get_or, get_or_from_slice_get}
use Rattle.arch_types.specs.declared.block.PbType.{PbType}
use Rattle.arch_types.specs.declared.block.Mode.{Mode}
use Rattle.arch_types.specs.Tree.{kids_of}
use Rattle.arch_types.specs.Address.{Address, step_to, copies, below}
use Rattle.arch_types.proofs.TreeRows.{modes_from, kids_from, in_mode_is}
use Rattle.pb_expand.specs.declared.number.Step.{Step}
use Rattle.pb_expand.specs.Graph.{step_from}
use Rattle.pb_expand.specs.Rows.{address_by, addresses_after, addresses, IsTree}
use Rattle.pb_expand.proofs.Lists.{get_front, get_after, get_either}
use Rattle.pb_expand.proofs.RowLemmas.{length-addresses}

-- the rows began as `old`; with what is still to come they have all that is to be added
pub record Grew (old rows : List Step) (to_come all : List Address) : Type 0 where
  pub tree : IsTree rows
  pub longer : length old ≤ length rows
  pub few : length old ≤ 1048575 → length rows ≤ 1048575
  pub so_far : addresses rows ++ to_come ≡ addresses old ++ all

addresses_after-push : (before : List Address) (rows : List Step) (s : Step) →
    addresses_after before (rows ++ s ∷ []) ≡ addresses_after before rows ++ address_by (addresses_after before rows) s ∷ []
addresses_after-push before [] s = refl
addresses_after-push before (row ∷ rows) s = addresses_after-push (before ++ address_by before row ∷ []) rows s

pub addresses-push : (rows : List Step) (s : Step) → addresses (rows ++ s ∷ []) ≡ addresses rows ++ address_by (addresses rows) s ∷ []
addresses-push rows s = addresses_after-push ([] ∷ []) rows s

pub grew_starts : (old : List Step) (all : List Address) → IsTree old → Grew old old all all
grew_starts old all tree = record { tree = tree; longer = omega arith; few = λ h. h; so_far = refl }

pub grew_by : (old rows : List Step) (a b all : List Address) → Grew old rows a all → a ≡ b → Grew old rows b all
grew_by old rows a b all grew e = subst (λ x. Grew old rows x all) e grew

pub grew_ends : (old rows : List Step) (all : List Address) → Grew old rows [] all → addresses rows ≡ addresses old ++ all
grew_ends old rows all grew = sym (append-nil (addresses rows)) ∙ grew.so_far

front_read : {X : Type 0} (xs ys : List X) (k : ℕ) (d : X) → k < length xs → get_or (xs ++ ys) k d ≡ get_or xs k d
front_read xs ys k d inside =
    let read = slice_get-get_or xs k d inside in
    get_or_from_slice_get (xs ++ ys) k (get_or xs k d) d (get_front xs ys k (get_or xs k d) read)

-- an instance that was there keeps its address
pub grew_here : (old rows : List Step) (to_come all : List Address) (here : ℕ) → Grew old rows to_come all → here ≤ length old →
    get_or (addresses rows) here [] ≡ get_or (addresses old) here []
grew_here old rows to_come all here grew inside =
    let one = front_read (addresses rows) to_come here [] (omega (arith, length-addresses rows, grew.longer)) in
    let other = front_read (addresses old) all here [] (omega (arith, length-addresses old)) in
    sym one ∙ ap (λ xs. get_or xs here []) grew.so_far ∙ other

earlier_more : (rows : List Step) (s : Step) → IsTree rows → s.parent.0 ≤ length rows → (k : ℕ) (r : Step) → slice_get (rows ++ s ∷ []) k ≡ Some r → r.parent.0 ≤ k
earlier_more rows s tree low k r at = elim (get_either rows (s ∷ []) k r at) [ inl e ↦ tree.earlier k r e | inr h ↦ by_last h.0 h.1 h.2 ]
  where
    by_last : (j : ℕ) → k ≡ length rows + j → slice_get (s ∷ []) j ≡ Some r → r.parent.0 ≤ k
    by_last zero e f = let same : s ≡ r = cc in subst (λ (x : Step). x.parent.0 ≤ k) same (omega arith)
    by_last (suc j) e f = cc

-- one row more
pub grew_row : (old rows more : List Step) (to_come all : List Address) (parent mode child n : ℕ) (here : Address) →
    Grew old rows (step_to here mode child n ∷ to_come) all → parent ≤ length old → get_or (addresses old) parent [] ≡ here →
    more ≡ rows ++ step_from parent mode child n ∷ [] → length more ≤ 1048575 → Grew old more to_come all
grew_row old rows more to_come all parent mode child n here grew inside at e few =
    let s = step_from parent mode child n in
    let longer : length more ≡ length rows + 1 = ap length e ∙ length-append rows (s ∷ []) in
    let reads : get_or (addresses rows) parent [] ≡ here = grew_here old rows (step_to here mode child n ∷ to_come) all parent grew inside ∙ at in
    let adds : addresses more ≡ addresses rows ++ step_to here mode child n ∷ [] =
    ap addresses e ∙ addresses-push rows s ∙ ap (λ a. addresses rows ++ step_to a mode child n ∷ []) reads in
    let earlier : (k : ℕ) (r : Step) → slice_get (rows ++ s ∷ []) k ≡ Some r → r.parent.0 ≤ k = earlier_more rows s grew.tree (omega (arith, grew.longer)) in
    record {
      tree = record { earlier = subst (λ rs. (k : ℕ) (r : Step) → slice_get rs k ≡ Some r → r.parent.0 ≤ k) (sym e) earlier };
      longer = omega (arith, grew.longer);
      few = λ h. few;
      so_far = ap (λ xs. xs ++ to_come) adds ∙ append_assoc (addresses rows) (step_to here mode child n ∷ []) to_come ∙ grew.so_far;
    }

-- all that stands below the last row
pub grew_below : (old rows more : List Step) (under to_come all : List Address) → Grew old rows (under ++ to_come) all →
    addresses more ≡ addresses rows ++ under → IsTree more → (length rows ≤ 1048575 → length more ≤ 1048575) → Grew old more to_come all
grew_below old rows more under to_come all grew adds tree few = record {
  tree = tree;
  longer = omega (arith, grew.longer, length-addresses rows, length-addresses more, ap length adds, length-append (addresses rows) under);
  few = λ h. few (grew.few h);
  so_far = ap (λ xs. xs ++ to_come) adds ∙ append_assoc (addresses rows) under to_come ∙ grew.so_far;
}

-- the last row's instance has the address that the row says
pub last_address : (rows more : List Step) (s : Step) (here a : Address) → more ≡ rows ++ s ∷ [] → get_or (addresses rows) s.parent.0 [] ≡ here →
    a ≡ step_to here s.mode s.child s.instance → get_or (addresses more) (length more) [] ≡ a
last_address rows more s here a e reads is =
    let adds : addresses more ≡ addresses rows ++ a ∷ [] =
    ap addresses e ∙ addresses-push rows s ∙ ap (λ x. addresses rows ++ step_to x s.mode s.child s.instance ∷ []) reads ∙ ap (λ x. addresses rows ++ x ∷ []) (sym is) in
    let place : length more ≡ length (addresses rows) = ap length e ∙ length-append rows (s ∷ []) ∙ omega (arith, length-addresses rows) in
    get_or_from_slice_get (addresses more) (length more) a []
    (ap (λ xs. slice_get xs (length more)) adds ∙ get_after (addresses rows) [] a (length more) place)

-- fewer instances stand below the last row than were to be added
pub fewer_below : (old rows : List Step) (under to_come all : List Address) → Grew old rows (under ++ to_come) all → length old < length rows → length under < length all
fewer_below old rows under to_come all grew longer =
    omega (
      arith,
      length-addresses old,
      length-addresses rows,
      ap length grew.so_far,
      length-append (addresses rows) (under ++ to_come),
      length-append under to_come,
      length-append (addresses old) all,
    )

-- what is to come in the midst of a child: its instances from n on, and those of the children behind it
abbrev pub kids_at : List PbType → ℕ → ℕ → ℕ → Address → List Address
kids_at [] mode child n here = []
kids_at (kid ∷ kids) mode child n here = copies (λ a. below kid.kind a) mode child n (kid.count - n) here ++ kids_from kids mode (child + 1) here

pub kids_begin : (kids : List PbType) (mode child : ℕ) (here : Address) → kids_at kids mode child 0 here ≡ kids_from kids mode child here
kids_begin [] mode child here = refl
kids_begin (kid ∷ kids) mode child here =
    let all : kid.count - 0 ≡ kid.count = omega arith in
    ap (λ k. copies (λ a. below kid.kind a) mode child 0 k here ++ kids_from kids mode (child + 1) here) all

pub kid_step : (kids : List PbType) (mode child n : ℕ) (here : Address) (kid : PbType) → child < length kids → kid ≡ get_or kids child kid → n < kid.count →
    kids_at (drop child kids) mode child n here
    ≡ step_to here mode child n ∷ (below kid.kind (step_to here mode child n) ++ kids_at (drop child kids) mode child (n + 1) here)
kid_step kids mode child n here kid inside e more =
    let cut : drop child kids ≡ kid ∷ drop (suc child) kids = drop-cons kids child kid inside ∙ ap (λ x. x ∷ drop (suc child) kids) (sym e) in
    let count : kid.count - n ≡ suc (kid.count - (n + 1)) = omega arith in
    let rest = kids_from (drop (suc child) kids) mode (child + 1) here in
    let under = below kid.kind (step_to here mode child n) in
    let behind = copies (λ a. below kid.kind a) mode child (n + 1) (kid.count - (n + 1)) here in
    subst (λ ks. kids_at ks mode child n here ≡ step_to here mode child n ∷ (under ++ kids_at ks mode child (n + 1) here)) (sym cut)
    (ap (λ k. copies (λ a. below kid.kind a) mode child n k here ++ rest) count ∙ ap (λ l. step_to here mode child n ∷ l) (append_assoc under behind rest))

pub kid_end : (kids : List PbType) (mode child n : ℕ) (here : Address) (kid : PbType) → child < length kids → kid ≡ get_or kids child kid → kid.count ≤ n →
    kids_at (drop child kids) mode child n here ≡ kids_from (drop (child + 1) kids) mode (child + 1) here
kid_end kids mode child n here kid inside e done =
    let cut : drop child kids ≡ kid ∷ drop (suc child) kids = drop-cons kids child kid inside ∙ ap (λ x. x ∷ drop (suc child) kids) (sym e) in
    let none : kid.count - n ≡ 0 = omega arith in
    let next : suc child ≡ child + 1 = omega arith in
    ap (λ ks. kids_at ks mode child n here) cut
    ∙ ap (λ k. copies (λ a. below kid.kind a) mode child n k here ++ kids_from (drop (suc child) kids) mode (child + 1) here) none
    ∙ ap (λ k. kids_from (drop k kids) mode (child + 1) here) next

-- a mode begins
pub mode_begin : (modes : List Mode) (mode : ℕ) (here : Address) (m : Mode) (kids : List PbType) → mode < length modes → m ≡ get_or modes mode m → kids_of m ≡ kids →
    modes_from (drop mode modes) mode here ≡ kids_from kids mode 0 here ++ modes_from (drop (mode + 1) modes) (mode + 1) here
mode_begin modes mode here m kids inside e f =
    let next : suc mode ≡ mode + 1 = omega arith in
    let cut : drop mode modes ≡ m ∷ drop (suc mode) modes = drop-cons modes mode m inside ∙ ap (λ x. x ∷ drop (suc mode) modes) (sym e) in
    ap (λ ms. modes_from ms mode here) cut
    ∙ ap (λ l. l ++ modes_from (drop (suc mode) modes) (mode + 1) here) (in_mode_is m mode here ∙ ap (λ ks. kids_from ks mode 0 here) f)
    ∙ ap (λ k. kids_from kids mode 0 here ++ modes_from (drop k modes) (mode + 1) here) next

pub no_kids : (kids : List PbType) (mode child : ℕ) (here : Address) → length kids ≤ child → kids_from (drop child kids) mode child here ≡ []
no_kids kids mode child here done = ap (λ ks. kids_from ks mode child here) (drop_all child kids done)

pub no_modes : (modes : List Mode) (mode : ℕ) (here : Address) → length modes ≤ mode → modes_from (drop mode modes) mode here ≡ []
no_modes modes mode here done = ap (λ ms. modes_from ms mode here) (drop_all mode modes done)

-- what is known once a child's row was pushed
pub record IsPushed (old more : List Step) (kid : PbType) (below_it : Address) (to_come all : List Address) : Type 0 where
  pub grew : Grew old more (below kid.kind below_it ++ to_come) all
  pub address : get_or (addresses more) (length more) [] ≡ below_it
  pub less : length (below kid.kind below_it) < length all

pub kid_pushed : (old rows more : List Step) (parent mode child n : ℕ) (here : Address) (kids : List PbType) (kid : PbType) (tail all : List Address) →
    Grew old rows (kids_at (drop child kids) mode child n here ++ tail) all → child < length kids → kid ≡ get_or kids child kid → n < kid.count →
    parent ≤ length old → get_or (addresses old) parent [] ≡ here → more ≡ rows ++ step_from parent mode child n ∷ [] → length more ≤ 1048575 →
    IsPushed old more kid (step_to here mode child n) (kids_at (drop child kids) mode child (n + 1) here ++ tail) all
kid_pushed old rows more parent mode child n here kids kid tail all grew inside e counted low at added few =
    let below_it = step_to here mode child n in
    let under = below kid.kind below_it in
    let behind = kids_at (drop child kids) mode child (n + 1) here in
    let opened : kids_at (drop child kids) mode child n here ++ tail ≡ below_it ∷ (under ++ (behind ++ tail)) =
    ap (λ l. l ++ tail) (kid_step kids mode child n here kid inside e counted) ∙ ap (λ l. below_it ∷ l) (append_assoc under behind tail) in
    let grew_one = grew_by old rows (kids_at (drop child kids) mode child n here ++ tail) (below_it ∷ (under ++ (behind ++ tail))) all grew opened in
    let reads = grew_here old rows (below_it ∷ (under ++ (behind ++ tail))) all parent grew_one low ∙ at in
    let grown = grew_row old rows more (under ++ (behind ++ tail)) all parent mode child n here grew_one low at added few in
    let longer : length old < length more = omega (arith, grew.longer, ap length added, length-append rows (step_from parent mode child n ∷ [])) in
    record {
      grew = grown;
      address = last_address rows more (step_from parent mode child n) here below_it added reads refl;
      less = fewer_below old more under (behind ++ tail) all grown longer;
    }

-- what is there and what is to come are as many as what was there and what is to be added
pub grew_count : (old rows : List Step) (to_come all : List Address) → Grew old rows to_come all → length rows + length to_come ≡ length old + length all
grew_count old rows to_come all grew =
    omega (
      arith,
      length-addresses old,
      length-addresses rows,
      ap length grew.so_far,
      length-append (addresses rows) to_come,
      length-append (addresses old) all,
    )

-- where there is no room for one more row, too many were to be added
pub no_room : (old rows : List Step) (kids : List PbType) (kid : PbType) (mode child n : ℕ) (here : Address) (tail all : List Address) →
    Grew old rows (kids_at (drop child kids) mode child n here ++ tail) all → child < length kids → kid ≡ get_or kids child kid → n < kid.count →
    1048575 ≤ length rows → 1048575 < length old + length all
no_room old rows kids kid mode child n here tail all grew inside e counted full =
    let step = step_to here mode child n in
    let rest = below kid.kind step ++ kids_at (drop child kids) mode child (n + 1) here in
    let opened : length (kids_at (drop child kids) mode child n here ++ tail) ≡ length (step ∷ rest) + length tail =
    length-append (kids_at (drop child kids) mode child n here) tail ∙ ap (λ l. length l + length tail) (kid_step kids mode child n here kid inside e counted) in
    omega (arith, grew_count old rows (kids_at (drop child kids) mode child n here ++ tail) all grew, opened)

-- where there is no room for what stands below a row, too many were to be added
pub no_room_below : (old more : List Step) (under to_come all : List Address) → Grew old more (under ++ to_come) all → 1048575 < length more + length under →
    1048575 < length old + length all
no_room_below old more under to_come all grew full = omega (arith, grew_count old more (under ++ to_come) all grew, length-append under to_come)

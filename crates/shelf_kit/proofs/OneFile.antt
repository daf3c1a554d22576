-- What an append to one file of a shelf means for that file's bytes and for the other files.
use Rattle.std.proofs.Common.{◌≡◌, ℕ, Bool, true, false, cond, List, [], ◌++◌, Option, Some, None, Err, IsErrOf, IsSome, refl, sym, ap, subst, ◌∙◌}
use Rattle.std.specs.declared.cmp.Ordering.TheVariants.{Less, Equal, Greater}
use Rattle.std.specs.Ordering.{nat_cmp, is_eq, eq_by_cmp}
use Rattle.std.specs.Cmp.{eq_by_cmp_equiv}
use Rattle.std.specs.Cmp.Lexicographic.{slice_cmp, nat_list_cmp_total}
use Rattle.std.specs.FinMap.{remove, get_tied, get-insert, get-remove}
use Rattle.vtr_base.specs.declared.outside.ShelfError.{ShelfError}
use Rattle.vtr_base.specs.declared.outside.ShelfError.TheVariants.{Missing, Failed, TooLong, OutOfMemory}
use Rattle.vtr_base.specs.Outside.{Files, Beside, file, with_file, bytes_of, IsOnShelf, WhereKnown, Rose, begun, appended, written, AppendsPart, WrittenPart}
use Rattle.shelf_kit.specs.OneFile.{bytes_at, others_than, beside_of}
use Rattle.shelf_kit.proofs.Files.{same_files, nothing_appended}

-- the file that was written has what was written
pub file_with_file : (m : Files) (name bytes : List ℕ) → file (with_file m name bytes) name ≡ Some bytes
file_with_file m name bytes = get-insert nat_list_cmp_total m name bytes name ∙ ap (λ b. cond b (Some bytes) (file m name)) ((eq_by_cmp_equiv nat_list_cmp_total).refl name)

-- and is files_of
pub with_file_held : (m n : Files) (name bytes : List ℕ) → n ≡ with_file m name bytes → IsOnShelf n name
with_file_held m n name bytes e = subst (λ k. IsOnShelf k name) (sym e) (subst IsSome (sym (file_with_file m name bytes)) refl)

-- a file that was begun is files_of
pub begun_held : (name : List ℕ) (old new : Option Files) → new ≡ begun name old → WhereKnown new (λ m. IsOnShelf m name)
begun_held name None new e = subst (λ o. WhereKnown o (λ m. IsOnShelf m name)) (sym e) tt
begun_held name (Some m) new e = subst (λ o. WhereKnown o (λ m. IsOnShelf m name)) (sym e) (with_file_held m _ name [] refl)

covered : {V : Type 0} (b : Bool) (v : V) (old : Option V) → cond b None (cond b (Some v) old) ≡ cond b None old
covered true v old = refl
covered false v old = refl

-- the other files stay
others_stay : (m : Files) (name bytes : List ℕ) → others_than name (Some (with_file m name bytes)) ≡ others_than name (Some m)
others_stay m name bytes = ap Some (same_files _ _ (λ q.
    get-remove nat_list_cmp_total (with_file m name bytes) name q
    ∙ ap (cond (eq_by_cmp (slice_cmp nat_cmp) q name) None) (get-insert nat_list_cmp_total m name bytes q)
    ∙ covered (eq_by_cmp (slice_cmp nat_cmp) q name) bytes (file m q)
    ∙ sym (get-remove nat_list_cmp_total m name q)))

others_appended : (name piece : List ℕ) (old new : Option Files) → new ≡ appended name piece old → others_than name new ≡ others_than name old
others_appended name piece None new e = ap (others_than name) e
others_appended name piece (Some m) new e = ap (others_than name) e ∙ others_stay m name _

pub beside_appended : (name piece : List ℕ) (old new : Option Files) (loan : ℕ) → new ≡ appended name piece old → beside_of name new loan ≡ beside_of name old loan
beside_appended name piece old new loan e = ap (λ others. Some (record { name = name; others = others; loan = loan })) (others_appended name piece old new e)

pub held_appended : (name piece : List ℕ) (old new : Option Files) → new ≡ appended name piece old → (m : Files) → new ≡ Some m → IsOnShelf m name
held_appended name piece None new e m is = absurd (cc)
held_appended name piece (Some f) new e m is =
    let same : m ≡ with_file f name (bytes_of (file f name) ++ piece) = cc in
    with_file_held f m name _ same

written_held : (piece : List ℕ) (o : Option (List ℕ)) → IsSome o → Some (bytes_of o ++ piece) ≡ written piece o
written_held piece (Some b) there = refl
written_held piece None there = absurd (cc)

pub bytes_appended : (name piece : List ℕ) (old new : Option Files) → ((m : Files) → old ≡ Some m → IsOnShelf m name) → new ≡ appended name piece old
    → bytes_at name new ≡ written piece (bytes_at name old)
bytes_appended name piece None new files_of e = ap (bytes_at name) e
bytes_appended name piece (Some m) new files_of e = ap (bytes_at name) e ∙ file_with_file m name _ ∙ written_held piece (file m name) (files_of m refl)

pub part_held : (name piece : List ℕ) (old new : Option Files) → AppendsPart name piece old new → (m : Files) → new ≡ Some m → IsOnShelf m name
part_held name piece old new p = held_appended name p.0 old new p.3

pub part_beside : (name piece : List ℕ) (old new : Option Files) (loan : ℕ) → AppendsPart name piece old new → beside_of name new loan ≡ beside_of name old loan
part_beside name piece old new loan p = beside_appended name p.0 old new loan p.3

pub part_written : (name piece : List ℕ) (old new : Option Files) → ((m : Files) → old ≡ Some m → IsOnShelf m name) → AppendsPart name piece old new
    → WrittenPart piece (bytes_at name old) (bytes_at name new)
part_written name piece old new files_of p = (p.0, p.1, p.2, bytes_appended name p.0 old new files_of p.3)

pub told_held : (name : List ℕ) (old : Option Files) → WhereKnown old (λ m. IsOnShelf m name) → (m : Files) → old ≡ Some m → IsOnShelf m name
told_held name None told m e = absurd (cc)
told_held name (Some f) told m e = let same : f ≡ m = cc in subst (λ k. IsOnShelf k name) same told

pub held_told : (name : List ℕ) (old : Option Files) → ((m : Files) → old ≡ Some m → IsOnShelf m name) → WhereKnown old (λ m. IsOnShelf m name)
held_told name None files_of = tt
held_told name (Some m) files_of = files_of m refl

nothing_part : (name piece : List ℕ) (old : Option Files) → ((m : Files) → old ≡ Some m → IsOnShelf m name) → AppendsPart name piece old old
nothing_part name piece None files_of = ([], piece, refl, refl)
nothing_part name piece (Some m) files_of = nothing_appended m name piece (files_of m refl)

-- an append that failed, for whatever cause, left a front of the piece
pub err_part : (e : ShelfError) (name piece : List ℕ) (old new : Option Files) (f f' : ℕ) → ((m : Files) → old ≡ Some m → IsOnShelf m name)
    → (IsErrOf {T = Unit {0}} (Err e) Failed → Rose f f' × AppendsPart name piece old new) → (IsErrOf {T = Unit {0}} (Err e) OutOfMemory → new ≡ old)
    → (IsErrOf {T = Unit {0}} (Err e) Missing → ⊥) → (IsErrOf {T = Unit {0}} (Err e) TooLong → ⊥) → AppendsPart name piece old new
err_part Failed name piece old new f f' files_of failed memory missing long = (failed refl).1
err_part OutOfMemory name piece old new f f' files_of failed memory missing long = subst (AppendsPart name piece old) (sym (memory refl)) (nothing_part name piece old files_of)
err_part Missing name piece old new f f' files_of failed memory missing long = absurd (missing refl)
err_part TooLong name piece old new f f' files_of failed memory missing long = absurd (long refl)

-- an append that failed, and not for want of memory, is a fault
pub err_rose : (e : ShelfError) (name piece : List ℕ) (old new : Option Files) (f f' : ℕ) → (e ≡ OutOfMemory → ⊥)
    → (IsErrOf {T = Unit {0}} (Err e) Failed → Rose f f' × AppendsPart name piece old new)
    → (IsErrOf {T = Unit {0}} (Err e) Missing → ⊥) → (IsErrOf {T = Unit {0}} (Err e) TooLong → ⊥) → Rose f f'
err_rose Failed name piece old new f f' not failed missing long = (failed refl).0
err_rose OutOfMemory name piece old new f f' not failed missing long = absurd (not refl)
err_rose Missing name piece old new f f' not failed missing long = absurd (missing refl)
err_rose TooLong name piece old new f f' not failed missing long = absurd (long refl)

with_new_bytes : (m n : Files) (name bytes : List ℕ) → remove n name ≡ remove m name → file n name ≡ Some bytes → n ≡ with_file m name bytes
with_new_bytes m n name bytes others there = same_files _ _ (λ q.
    sym (get-insert nat_list_cmp_total m name bytes q
    ∙ elim (slice_cmp nat_cmp q name) as (λ r. slice_cmp nat_cmp q name ≡ r → cond (is_eq r) None (file n q) ≡ cond (is_eq r) None (file m q) → cond (is_eq r) (Some bytes) (file m q) ≡ file n q) [
      | Less ↦ λ _ same. sym same
      | Equal ↦ λ tie _. sym there ∙ get_tied nat_list_cmp_total n q name tie
      | Greater ↦ λ _ same. sym same
    ] refl (sym (get-remove nat_list_cmp_total n name q) ∙ ap (λ m. file m q) others ∙ get-remove nat_list_cmp_total m name q)))

unwritten : (piece : List ℕ) (o : Option (List ℕ)) → IsSome o → written piece o ≡ Some (bytes_of o ++ piece)
unwritten piece o there = sym (written_held piece o there)

abbrev others_of : Option Beside → Option Files
others_of None = None
others_of (Some b) = b.others

abbrev name_of : Option Beside → List ℕ
name_of None = []
name_of (Some b) = b.name

same_name_appended : (name piece : List ℕ) (old new : Option Files) → ((m : Files) → old ≡ Some m → IsOnShelf m name)
    → others_than name new ≡ others_than name old → bytes_at name new ≡ written piece (bytes_at name old) → new ≡ appended name piece old
same_name_appended name piece None None files_of others bytes = refl
same_name_appended name piece None (Some n) files_of others bytes = absurd (cc)
same_name_appended name piece (Some m) None files_of others bytes = absurd (cc)
same_name_appended name piece (Some m) (Some n) files_of others bytes =
    let same : remove n name ≡ remove m name = cc in
    ap Some (with_new_bytes m n name _ same (bytes ∙ unwritten piece (file m name) (files_of m refl)))

-- what a sink over one file tells says what the shelf holds: its other files stayed, and the bytes
-- of this one grew by the piece
pub told_appended : (name name' piece : List ℕ) (old new : Option Files) (loan loan' : ℕ) → ((m : Files) → old ≡ Some m → IsOnShelf m name)
    → beside_of name' new loan' ≡ beside_of name old loan → bytes_at name' new ≡ written piece (bytes_at name old) → new ≡ appended name piece old
told_appended name name' piece old new loan loan' files_of beside bytes =
    let same : name' ≡ name = ap name_of beside in
    same_name_appended name piece old new files_of (ap (λ k. others_than k new) (sym same) ∙ ap others_of beside) (ap (λ k. bytes_at k new) (sym same) ∙ bytes)

-- the same after a failed put
pub told_part : (name name' piece : List ℕ) (old new : Option Files) (loan loan' : ℕ) → ((m : Files) → old ≡ Some m → IsOnShelf m name)
    → beside_of name' new loan' ≡ beside_of name old loan → WrittenPart piece (bytes_at name old) (bytes_at name' new) → AppendsPart name piece old new
told_part name name' piece old new loan loan' files_of beside part = (part.0, part.1, part.2, told_appended name name' part.0 old new loan loan' files_of beside part.3)

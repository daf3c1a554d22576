-- What stands in an output file after it was begun and appended to.
use Rattle.std.proofs.Common.{◌≡◌, inl, inr, ℕ, append-nil, Bool, true, false, cond, List, [], ◌++◌, Option, Some, None, refl, sym, ap, subst, ◌∙◌, Result, Ok, Err, OnOk, OnErr}
use Rattle.std.specs.Ordering.{nat_cmp, eq_by_cmp}
use Rattle.std.specs.Cmp.Lexicographic.{slice_cmp, nat_list_cmp_total}
use Rattle.std.specs.FinMap.{get-insert}
use Rattle.vtr_base.specs.Outside.{Files, Beside, file, with_file, bytes_of, begun, appended, written, AppendsPart, BeginsPart, WrittenPart, WhereKnown, IsOnShelf}
use Rattle.shelf_kit.specs.OneFile.{bytes_at, beside_of}
use Rattle.shelf_kit.proofs.Files.{same_files}
use Rattle.shelf_kit.proofs.OneFile.{file_with_file, told_appended}
use Rattle.run_base.specs.Outputs.{wrote, WrotePart}

covered : {V : Type 0} (b : Bool) (u v : V) (old : Option V) → cond b (Some v) (cond b (Some u) old) ≡ cond b (Some v) old
covered true u v old = refl
covered false u v old = refl

-- a file that is written again has what was written last
written_again : (m : Files) (name early late : List ℕ) → with_file (with_file m name early) name late ≡ with_file m name late
written_again m name early late = same_files _ _ (λ q.
    get-insert nat_list_cmp_total (with_file m name early) name late q
    ∙ ap (cond (eq_by_cmp (slice_cmp nat_cmp) q name) (Some late)) (get-insert nat_list_cmp_total m name early q)
    ∙ covered (eq_by_cmp (slice_cmp nat_cmp) q name) early late (file m q)
    ∙ sym (get-insert nat_list_cmp_total m name late q))

pub begun_and_appended : (name text : List ℕ) (old : Option Files) → appended name text (begun name old) ≡ wrote name text old
begun_and_appended name text None = refl
begun_and_appended name text (Some m) =
    ap Some (ap (λ o. with_file (with_file m name []) name (bytes_of o ++ text)) (file_with_file m name []) ∙ written_again m name [] text)

pub wrote_whole : (name text : List ℕ) (old early new : Option Files) → early ≡ begun name old → new ≡ appended name text early →
    new ≡ wrote name text old
wrote_whole name text old early new begins appends =
    appends ∙ ap (appended name text) begins ∙ begun_and_appended name text old

pub wrote_part : (name text : List ℕ) (old early new : Option Files) → early ≡ begun name old → AppendsPart name text early new →
    WrotePart name text old new
wrote_part name text old early new begins part =
    inr (part.0, part.1, part.2, wrote_whole name part.0 old early new begins part.3)

begun_is : (name : List ℕ) (old : Option Files) → begun name old ≡ wrote name [] old
begun_is name None = refl
begun_is name (Some m) = refl

-- a begin that failed leaves all as it was, or the file without bytes
pub began_part : (name text : List ℕ) (old new : Option Files) → BeginsPart name old new → WrotePart name text old new
began_part name text old new (inl same) = inl same
began_part name text old new (inr begins) = inr ([], text, refl, begins ∙ begun_is name old)

-- the same of an append's answer
pub whole_written : {T E : Type 0} (name text : List ℕ) (old early new : Option Files) (r : Result T E) → early ≡ begun name old →
    OnOk r (new ≡ appended name text early) → OnOk r (new ≡ wrote name text old)
whole_written name text old early new (Ok v) begins is = wrote_whole name text old early new begins is
whole_written name text old early new (Err e) begins is = tt

pub part_written : {T E : Type 0} (name text : List ℕ) (old early new : Option Files) (r : Result T E) → early ≡ begun name old →
    OnErr r (AppendsPart name text early new) → OnErr r (WrotePart name text old new)
part_written name text old early new (Ok v) begins is = tt
part_written name text old early new (Err e) begins is = wrote_part name text old early new begins is

loan_of : Option Beside → ℕ
loan_of None = 0
loan_of (Some b) = b.loan

where_known : (name : List ℕ) (old : Option Files) → WhereKnown old (λ m. IsOnShelf m name) → (m : Files) → old ≡ Some m → IsOnShelf m name
where_known name None known m e = absurd (cc)
where_known name (Some n) known m e = subst (λ k. IsOnShelf k name) (ap (λ o. elim o [ Some k ↦ k | None ↦ n ]) e) known

-- what a sink tells when it goes: the files of the shelf that comes back from it
module _ {T : Type 0} (files : T → Option Files) where
  -- a sink that was made over one file of a shelf, what it is after it was used, and the shelf
  -- that comes back
  pub record Used (name : List ℕ) (before now end : T) : Type 0 where
    pub made : T
    pub given : ℕ
    pub loan : ℕ
    pub loan' : ℕ
    pub name' : List ℕ
    pub at : List ℕ
    pub ends : given ≡ loan' → end ≡ now
    pub lent : loan ≡ given
    pub is : made ≡ before
    pub named : at ≡ name
    pub held : WhereKnown (files before) (λ m. IsOnShelf m name)
    pub beside : beside_of name' (files now) loan' ≡ beside_of at (files made) loan

  pub used_whole : (name piece : List ℕ) (before now end : T) (u : Used name before now end)
      → bytes_at u.name' (files now) ≡ written piece (bytes_at u.at (files u.made)) → files end ≡ appended name piece (files before)
  unfolding loan_of
  used_whole name piece before now end u bytes =
      let back : files end ≡ files now = ap files (u.ends (sym u.lent ∙ sym (ap loan_of u.beside))) in
      let old : files u.made ≡ files before = ap files u.is in
      back ∙ told_appended name u.name' piece (files before) (files now) u.loan u.loan' (where_known name (files before) u.held)
      (u.beside ∙ ap (λ k. beside_of k (files u.made) u.loan) u.named ∙ ap (λ fs. beside_of name fs u.loan) old)
      (bytes ∙ ap (λ k. written piece (bytes_at k (files u.made))) u.named ∙ ap (λ fs. written piece (bytes_at name fs)) old)

  used_part : (name piece : List ℕ) (before now end : T) (u : Used name before now end)
      → WrittenPart piece (bytes_at u.at (files u.made)) (bytes_at u.name' (files now)) → AppendsPart name piece (files before) (files end)
  used_part name piece before now end u part = (part.0, part.1, part.2, used_whole name part.0 before now end u part.3)

  -- whatever a text's put answered, a front of the text stands in the file
  pub used_either : {V E : Type 0} (r : Result V E) (name piece : List ℕ) (before now end : T) (u : Used name before now end)
      → OnOk r (bytes_at u.name' (files now) ≡ written piece (bytes_at u.at (files u.made)))
      → OnErr r (WrittenPart piece (bytes_at u.at (files u.made)) (bytes_at u.name' (files now))) → AppendsPart name piece (files before) (files end)
  used_either (Ok v) name piece before now end u whole part = (piece, [], sym (append-nil piece), used_whole name piece before now end u whole)
  used_either (Err e) name piece before now end u whole part = used_part name piece before now end u part

-- What a map from names to bytes holds, before and after one file changes.
use Rattle.std.proofs.Common.{◌≡◌, ℕ, Bool, true, false, cond, List, [], ◌∷◌, map, ◌++◌, if◌then◌else◌, Result, Ok, Err, is_ok, OnOk, OnErr, IsSome, append-nil, Option, Some, None, option_map, refl, sym, ap, ◌∙◌, string_bytes, vec_items, String, Vec}
use Rattle.std.specs.BTreeMap.{BTreeMap, get_by_text, UpdatesBy, is_at}
use Rattle.std.specs.String.{string_cmp}
use Rattle.std.specs.declared.cmp.Ordering.TheVariants.{Less, Equal, Greater}
use Rattle.std.specs.Ordering.{nat_cmp, is_eq, eq_by_cmp}
use Rattle.std.specs.Cmp.{eq_by_cmp_equiv}
use Rattle.std.specs.Cmp.Lexicographic.{slice_cmp, nat_list_cmp_total}
use Rattle.std.specs.FinMap.{find, get-from_entries, get-insert, get_tied, same_map, slice_cmp-IsAntisymmetric, nat_cmp-IsAntisymmetric}
use Rattle.std.specs.Map.{lookup}
use Rattle.std.specs.Str.{bytes_eq}
use Rattle.std.proofs.lemmas.Map.Text.{btree_map_updates_text, is_eq-slice_cmp}
use Rattle.vtr_base.specs.Outside.{Files, file, with_file, bytes_of, IsOnShelf, AppendsPart}
use Rattle.shelf_kit.specs.MapFiles.{files_of}

-- two shelves that answer alike hold the same files
pub same_files : (m n : Files) → ((q : List ℕ) → file m q ≡ file n q) → m ≡ n
same_files m n alike = same_map nat_list_cmp_total (slice_cmp-IsAntisymmetric nat_cmp-IsAntisymmetric) m n alike

-- a file that is files_of with these bytes, files_of with them again
pub with_file_same : (m : Files) (name bytes : List ℕ) → file m name ≡ Some bytes → with_file m name bytes ≡ m
with_file_same m name bytes e = same_files _ _ (λ q. get-insert nat_list_cmp_total m name bytes q ∙
    elim (slice_cmp nat_cmp q name) as (λ r. slice_cmp nat_cmp q name ≡ r → cond (is_eq r) (Some bytes) (file m q) ≡ file m q) [
      | Less ↦ λ _. refl
      | Equal ↦ λ tie. sym e ∙ get_tied nat_list_cmp_total m q name tie
      | Greater ↦ λ _. refl
    ] refl)

-- one more piece at the end of a file that is files_of, or all as before
pub appended_or_same : {T E : Type 0} (r : Result T E) (m n : Files) (name bytes piece now : List ℕ) → file m name ≡ Some bytes
    → n ≡ with_file m name now → now ≡ (if is_ok r then bytes ++ piece else bytes)
    → OnOk r (n ≡ with_file m name (bytes_of (file m name) ++ piece)) × OnErr r (n ≡ m)
appended_or_same (Ok _) m n name bytes piece now old new e = (new ∙ ap (with_file m name) (e ∙ ap (λ o. bytes_of o ++ piece) (sym old)), tt)
appended_or_same (Err _) m n name bytes piece now old new e = (tt, new ∙ ap (with_file m name) e ∙ with_file_same m name bytes old)

-- a file that is files_of, as before, has a front of any piece at its end: the empty one
pub nothing_appended : (m : Files) (name piece : List ℕ) → IsOnShelf m name → AppendsPart name piece (Some m) (Some m)
nothing_appended m name piece there =
    elim (file m name) as (λ o. file m name ≡ o → IsSome o → AppendsPart name piece (Some m) (Some m)) [
      | Some bytes ↦ λ e _. ([], piece, refl, ap Some (sym (with_file_same m name (bytes_of (file m name) ++ []) (e ∙ ap Some (sym (append-nil _ ∙ ap bytes_of e))))))
      | None ↦ λ _ some. absurd (cc)
    ] refl there

changed : {V W : Type 0} (f : V → W) (b : Bool) (v : V) (old : Option V) → option_map f (cond b (Some v) old) ≡ cond b (Some (f v)) (option_map f old)
changed f true v old = refl
changed f false v old = refl

module _ {Y Z : Type 0} where
  find_held : (es : List (String Y × Vec ℕ Z)) (q : List ℕ)
      → find (slice_cmp nat_cmp) q (map (λ e. (string_bytes e.0, vec_items e.1)) es) ≡ option_map vec_items (lookup (is_at (λ k. slice_cmp nat_cmp q (string_bytes k))) es)
  find_held [] q = refl
  find_held (e ∷ es) q =
      elim (eq_by_cmp (slice_cmp nat_cmp) q (string_bytes e.0)) as (λ b. cond b (Some (vec_items e.1)) (find (slice_cmp nat_cmp) q (map (λ e. (string_bytes e.0, vec_items e.1)) es)) ≡ option_map vec_items (cond b (Some e.1) (lookup (is_at (λ k. slice_cmp nat_cmp q (string_bytes k))) es))) [
        | true ↦ refl
        | false ↦ find_held es q
      ]

  -- a name is files_of with the bytes that the map has at it
  pub file_held : (m : BTreeMap (String Y) (Vec ℕ Z)) (q : List ℕ) → file (files_of m) q ≡ option_map vec_items (get_by_text m q)
  file_held m q = get-from_entries nat_list_cmp_total _ q ∙ find_held m.entries q

  -- a map with a new value at one name holds the files with that one changed
  pub held_updated : (name : List ℕ) (m n : BTreeMap (String Y) (Vec ℕ Z)) (v : Vec ℕ Z)
      → UpdatesBy string_cmp (λ k. slice_cmp nat_cmp name (string_bytes k)) m n (Some v) → files_of n ≡ with_file (files_of m) name (vec_items v)
  held_updated name m n v updates = same_files _ _ (λ q.
      let same : bytes_eq name q ≡ eq_by_cmp (slice_cmp nat_cmp) q name = sym (is_eq-slice_cmp name q) ∙ (eq_by_cmp_equiv nat_list_cmp_total).symm name q in
      file_held n q ∙ ap (option_map vec_items) (btree_map_updates_text name m n (Some v) updates q) ∙ changed vec_items (bytes_eq name q) v (get_by_text m q)
      ∙ ap (λ b. cond b (Some (vec_items v)) (option_map vec_items (get_by_text m q))) same
      ∙ ap (cond (eq_by_cmp (slice_cmp nat_cmp) q name) (Some (vec_items v))) (sym (file_held m q))
      ∙ sym (get-insert nat_list_cmp_total (files_of m) name (vec_items v) q))

-- Items say a grid in one way, are refused in one way, and never both.
use Rattle.std.proofs.Common.{◌≡◌, ◌<◌, ℕ, suc, Bool, true, false, List, [], ◌∷◌, Some, map, length, slice_get, true≢false, refl, sym, ap, ◌∙◌, subst, inl, inr, arith}
use Rattle.std.proofs.lemmas.Bool.{cases_lt}
use Rattle.std.proofs.lemmas.Option.{slice_get_within, slice_get-map}
use Rattle.std.specs.Option.{option_map}
use Rattle.elem_text.specs.declared.elem.Elem.{Elem, out-Elem}
use Rattle.list_laws.proofs.Members.{has_at, at_has}
use Rattle.list_laws.proofs.Onces.{once_at}
use Rattle.list_laws.proofs.Places.{element}
use Rattle.rr_items.specs.declared.grid.GridFault.TheVariants.{Layer as OtherLayer, Number}
use Rattle.rr_items.specs.declared.grid.GridPlace.{GridPlace}
use Rattle.rr_items.specs.Grid.{SaysPlace}
use Rattle.rr_items.specs.Ground.{IsOnGround}
use Rattle.rr_grid.specs.declared.error.GridError.{GridError}
use Rattle.rr_grid.specs.declared.error.GridError.TheVariants.{UnknownBlock, BadGrid, Layer, BadItem, OutOfMemory}
use Rattle.rr_grid.specs.Refusing.{SaysNone, Fails, IsRefused}
use Rattle.rr_grid.specs.Roots.{column_and_row}
use Rattle.rr_grid.specs.Saying.{Says, NoneBefore, HasRootAmong, IsRight, SaysGrid}
use Rattle.rr_grid.proofs.Kept.{same_elem, none_said, one_said}

same_by_places : {X : Type 0} (xs ys : List X) → length xs ≡ length ys →
    ((k : ℕ) (x y : X) → slice_get xs k ≡ Some x → slice_get ys k ≡ Some y → x ≡ y) → xs ≡ ys
same_by_places [] [] long same = refl
same_by_places [] (y ∷ ys) long same = absurd (omega (arith, long))
same_by_places (x ∷ xs) [] long same = absurd (omega (arith, long))
same_by_places (x ∷ xs) (y ∷ ys) long same =
    let head = same 0 x y refl refl in
    let tail = same_by_places xs ys (omega (arith, long)) (λ k v w at_v at_w. same (suc k) v w at_v at_w) in cc

mapped_at : {A B : Type 0} (g : A → B) (xs : List A) (k : ℕ) (x : A) → slice_get xs k ≡ Some x → slice_get (map g xs) k ≡ Some (g x)
mapped_at g xs k x at = slice_get-map g xs k ∙ ap (option_map g) at

one_fault : (es : List Elem) (k : ℕ) → SaysNone es k OtherLayer → SaysNone es k Number → ⊥
one_fault es k off none = off.fails (subst IsOnGround (same_elem es k none.e off.e none.at off.at) none.fails.0)

within : (known : ℕ → Bool) (es : List Elem) (k : ℕ) (error : GridError) → Fails known es k error → k < length es
within known es k (UnknownBlock id) f = slice_get_within es k f.said.e f.said.at
within known es k (BadGrid x y) f = slice_get_within es k f.said.e f.said.at
within known es k Layer f = slice_get_within es k f.e f.at
within known es k (BadItem place) f = slice_get_within es k f.none.e f.none.at
within known es k OutOfMemory f = absurd f

module _ (one_place : (e : Elem) (p q : GridPlace) → SaysPlace e p → SaysPlace e q → p ≡ q) (known : ℕ → Bool) (es : List Elem) where
  pub one_grid : (ps qs : List GridPlace) → SaysGrid known es ps → SaysGrid known es qs → ps ≡ qs
  one_grid ps qs p q =
      same_by_places ps qs (p.long ∙ sym q.long) (λ k a b at_a at_b. one_said one_place es k a b (p.each k a at_a) (q.each k b at_b))

  fresh_at : (ps : List GridPlace) → SaysGrid known es ps → (k : ℕ) (p : GridPlace) → slice_get ps k ≡ Some p → NoneBefore es k p.x p.y
  fresh_at ps grid k p at j q low said is_x is_y =
      let r = element ps j (omega (arith, low, slice_get_within ps k p at)) in
      let same = one_said one_place es j r.0 q (grid.each j r.0 r.1) said in
      let spot : column_and_row r.0 ≡ column_and_row p =
      ap column_and_row same ∙ (ap (λ x. (x, q.y)) is_x ∙ ap (λ y. (p.x, y)) is_y) in
      let at_j : slice_get (map column_and_row ps) j ≡ Some (column_and_row p) = mapped_at column_and_row ps j r.0 r.1 ∙ ap Some spot in
      let index = once_at (map column_and_row ps) grid.right.once j k (column_and_row p) at_j (mapped_at column_and_row ps k p at) in
      omega (arith, low, index)

  right_at : (ps : List GridPlace) → SaysGrid known es ps → (k : ℕ) (p : GridPlace) → slice_get ps k ≡ Some p → IsRight known es k p
  right_at ps grid k p at =
      let rooted = grid.right.rooted p (has_at ps k p at) in
      let i = at_has ps rooted.root rooted.has in
      record {
        said = grid.each k p at;
        has_type = grid.has_type p (has_at ps k p at);
        fresh = fresh_at ps grid k p at;
        rooted = record {
          root = rooted.root;
          index = i.0;
          first = record { said = grid.each i.0 rooted.root i.1; x_is = refl; y_is = refl; first = fresh_at ps grid i.0 rooted.root i.1 };
          right = rooted.right;
        };
      }

  unknown_twice : (p q : GridPlace) (k : ℕ) → Says es k p → Says es k q → known p.block_type ≡ false → known q.block_type ≡ true → ⊥
  unknown_twice p q k a b lacks has =
      true≢false (sym has ∙ (ap (λ r. known r.block_type) (one_said one_place es k q p b a) ∙ lacks))

  not_right : (k : ℕ) (p : GridPlace) (error : GridError) → IsRight known es k p → Fails known es k error → ⊥
  not_right k p (UnknownBlock id) right f = unknown_twice f.place p k f.said right.said f.unknown right.has_type
  not_right k p (BadGrid x y) right f =
      let same = one_said one_place es k f.place p f.said right.said in
      elim f.wrong [
        | inl given ↦ right.fresh given.earlier given.other given.low given.said (given.x_is ∙ ap (λ r. r.x) same) (given.y_is ∙ ap (λ r. r.y) same)
        | inr none ↦ none (subst (HasRootAmong es) (sym same) right.rooted)
      ]
  not_right k p Layer right f = none_said es k OtherLayer p f right.said
  not_right k p (BadItem place) right f = none_said es k Number p f.none right.said
  not_right k p OutOfMemory right f = f

  one_failure : (k : ℕ) (a b : GridError) → Fails known es k a → Fails known es k b → a ≡ b
  one_failure k (UnknownBlock i) (UnknownBlock j) f g =
      ap UnknownBlock (f.told ∙ ap (λ r. r.block_type) (one_said one_place es k f.place g.place f.said g.said) ∙ sym g.told)
  one_failure k (UnknownBlock i) (BadGrid x y) f g = absurd (unknown_twice f.place g.place k f.said g.said f.unknown g.has_type)
  one_failure k (UnknownBlock i) Layer f g = absurd (none_said es k OtherLayer f.place g f.said)
  one_failure k (UnknownBlock i) (BadItem place) f g = absurd (none_said es k Number f.place g.none f.said)
  one_failure k (UnknownBlock i) OutOfMemory f g = absurd g
  one_failure k (BadGrid x y) (UnknownBlock i) f g = absurd (unknown_twice g.place f.place k g.said f.said g.unknown f.has_type)
  one_failure k (BadGrid x y) (BadGrid v w) f g =
      let same = one_said one_place es k f.place g.place f.said g.said in
      ap (λ a. BadGrid a y) (f.told_x ∙ ap (λ r. r.x) same ∙ sym g.told_x) ∙ ap (λ b. BadGrid v b) (f.told_y ∙ ap (λ r. r.y) same ∙ sym g.told_y)
  one_failure k (BadGrid x y) Layer f g = absurd (none_said es k OtherLayer f.place g f.said)
  one_failure k (BadGrid x y) (BadItem place) f g = absurd (none_said es k Number f.place g.none f.said)
  one_failure k (BadGrid x y) OutOfMemory f g = absurd g
  one_failure k Layer (UnknownBlock i) f g = absurd (none_said es k OtherLayer g.place f g.said)
  one_failure k Layer (BadGrid x y) f g = absurd (none_said es k OtherLayer g.place f g.said)
  one_failure k Layer Layer f g = refl
  one_failure k Layer (BadItem place) f g = absurd (one_fault es k f g.none)
  one_failure k Layer OutOfMemory f g = absurd g
  one_failure k (BadItem place) (UnknownBlock i) f g = absurd (none_said es k Number g.place f.none g.said)
  one_failure k (BadItem place) (BadGrid x y) f g = absurd (none_said es k Number g.place f.none g.said)
  one_failure k (BadItem place) Layer f g = absurd (one_fault es k g f.none)
  one_failure k (BadItem p) (BadItem q) f g =
      ap BadItem (f.told ∙ ap (λ e. (out-Elem e).place) (same_elem es k f.none.e g.none.e f.none.at g.none.at) ∙ sym g.told)
  one_failure k (BadItem place) OutOfMemory f g = absurd g
  one_failure k OutOfMemory b f g = absurd f

  pub never_both : (ps : List GridPlace) (error : GridError) → SaysGrid known es ps → IsRefused known es error → ⊥
  never_both ps error grid refused =
      let p = element ps refused.index (omega (arith, within known es refused.index error refused.fails, grid.long)) in
      not_right refused.index p.0 error (right_at ps grid refused.index p.0 p.1) refused.fails

  pub one_refusal : (a b : GridError) → IsRefused known es a → IsRefused known es b → a ≡ b
  one_refusal a b p q =
      elim (cases_lt p.index q.index) [
        | inl less ↦ (let r = q.earlier p.index less in absurd (not_right p.index r.0 a r.1 p.fails))
        | inr more ↦ elim (cases_lt q.index p.index) [
          | inl later ↦ (let r = p.earlier q.index later in absurd (not_right q.index r.0 b r.1 q.fails))
          | inr fewer ↦
              (let index : p.index ≡ q.index = omega (arith, more, fewer) in
              one_failure q.index a b (subst (λ k. Fails known es k a) index p.fails) q.fails)
        ]
      ]

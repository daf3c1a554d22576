-- The lists of models, of tiles and of block types under the root.
use Rattle.std.proofs.Common.{◌≡◌, ℕ, Bool, true, false, if◌then◌else◌, List, [], ◌∷◌, ◌++◌, refl, sym, ◌∙◌, ap, subst, codes, append-nil, append_assoc, Result, Ok, Err, OnOk}
use Rattle.std.specs.Str.{bytes_eq}
use Rattle.elem_text.specs.declared.elem.Elem.{Elem}
use Rattle.arch_rules.specs.declared.error.RuleError.{RuleError}
use Rattle.arch_rules.specs.declared.role.Role.{Role}
use Rattle.arch_rules.specs.declared.role.Role.TheVariants.{Architecture, Models, Tiles, Layouts, Blocks, Carried, Foreign}
use Rattle.arch_rules.specs.declared.taken.Taken.{Taken}
use Rattle.arch_rules.specs.declared.walk.Lists.{Lists}
use Rattle.arch_rules.specs.Elements.{name_of, kids_of, is_named}
use Rattle.arch_rules.specs.Roles.{role_in}
use Rattle.arch_rules.specs.Rules.{Inside, role_at}
use Rattle.arch_rules.specs.Taken.{Knows, KnowsLists, list_of}
use Rattle.arch_rules.specs.Walks.{cousins, in_lists, inside, owner_in, Judges}
use Rattle.arch_rules.proofs.Loops.{eq_named}

-- a list's role is by its name
pick_models : (b0 b1 b2 b3 b4 : Bool) →
    (if b0 then Foreign else if b1 then Models else if b2 then Tiles else if b3 then Layouts else if b4 then Blocks else Carried) ≡ Models → b1 ≡ true
pick_models true b1 b2 b3 b4 is = absurd (cc)
pick_models false true b2 b3 b4 is = refl
pick_models false false true b3 b4 is = absurd (cc)
pick_models false false false true b4 is = absurd (cc)
pick_models false false false false true is = absurd (cc)
pick_models false false false false false is = absurd (cc)

pick_tiles : (b0 b1 b2 b3 b4 : Bool) →
    (if b0 then Foreign else if b1 then Models else if b2 then Tiles else if b3 then Layouts else if b4 then Blocks else Carried) ≡ Tiles → b2 ≡ true
pick_tiles true b1 b2 b3 b4 is = absurd (cc)
pick_tiles false true b2 b3 b4 is = absurd (cc)
pick_tiles false false true b3 b4 is = refl
pick_tiles false false false true b4 is = absurd (cc)
pick_tiles false false false false true is = absurd (cc)
pick_tiles false false false false false is = absurd (cc)

pick_blocks : (b0 b1 b2 b3 b4 : Bool) →
    (if b0 then Foreign else if b1 then Models else if b2 then Tiles else if b3 then Layouts else if b4 then Blocks else Carried) ≡ Blocks → b4 ≡ true
pick_blocks true b1 b2 b3 b4 is = absurd (cc)
pick_blocks false true b2 b3 b4 is = absurd (cc)
pick_blocks false false true b3 b4 is = absurd (cc)
pick_blocks false false false true b4 is = absurd (cc)
pick_blocks false false false false true is = refl
pick_blocks false false false false false is = absurd (cc)

is_models : (n : List ℕ) → role_in Architecture n ≡ Models → bytes_eq n (codes "models") ≡ true
is_models n is = pick_models (bytes_eq n (codes "xi:include")) (bytes_eq n (codes "models")) (bytes_eq n (codes "tiles")) (bytes_eq n (codes "layout")) (bytes_eq n (codes "complexblocklist")) is

is_tiles : (n : List ℕ) → role_in Architecture n ≡ Tiles → bytes_eq n (codes "tiles") ≡ true
is_tiles n is = pick_tiles (bytes_eq n (codes "xi:include")) (bytes_eq n (codes "models")) (bytes_eq n (codes "tiles")) (bytes_eq n (codes "layout")) (bytes_eq n (codes "complexblocklist")) is

is_blocks : (n : List ℕ) → role_in Architecture n ≡ Blocks → bytes_eq n (codes "complexblocklist") ≡ true
is_blocks n is = pick_blocks (bytes_eq n (codes "xi:include")) (bytes_eq n (codes "models")) (bytes_eq n (codes "tiles")) (bytes_eq n (codes "layout")) (bytes_eq n (codes "complexblocklist")) is

from_models : (n : List ℕ) → bytes_eq n (codes "models") ≡ true → role_in Architecture n ≡ Models
from_models n is = ap (λ m. role_in Architecture m) (eq_named n (codes "models") is)

from_tiles : (n : List ℕ) → bytes_eq n (codes "tiles") ≡ true → role_in Architecture n ≡ Tiles
from_tiles n is = ap (λ m. role_in Architecture m) (eq_named n (codes "tiles") is)

from_blocks : (n : List ℕ) → bytes_eq n (codes "complexblocklist") ≡ true → role_in Architecture n ≡ Blocks
from_blocks n is = ap (λ m. role_in Architecture m) (eq_named n (codes "complexblocklist") is)

-- what a further element adds to the elements in lists of a name
in_lists_more : (word : List ℕ) (before : List Elem) (e : Elem) → in_lists word (before ++ e ∷ []) ≡ in_lists word before ++ (if is_named word e then kids_of e else [])
in_lists_more word [] e = append-nil (if is_named word e then kids_of e else [])
in_lists_more word (b ∷ before) e =
    ap (λ l. (if is_named word b then kids_of b else []) ++ l) (in_lists_more word before e)
    ∙ sym (append_assoc (if is_named word b then kids_of b else []) (in_lists word before) (if is_named word e then kids_of e else []))

added : (word : List ℕ) (before : List Elem) (e : Elem) → bytes_eq (name_of e) word ≡ true → in_lists word (before ++ e ∷ []) ≡ in_lists word before ++ kids_of e
added word before e is = in_lists_more word before e ∙ ap (λ b. in_lists word before ++ (if b then kids_of e else [])) is

same : (word : List ℕ) (before : List Elem) (e : Elem) → (bytes_eq (name_of e) word ≡ true → ⊥) → in_lists word (before ++ e ∷ []) ≡ in_lists word before
same word before e other = in_lists_more word before e ∙ by_name (bytes_eq (name_of e) word) other where
  by_name : (b : Bool) → (b ≡ true → ⊥) → in_lists word before ++ (if b then kids_of e else []) ≡ in_lists word before
  by_name true other = absurd (other refl)
  by_name false other = append-nil (in_lists word before)

models_tiles : (r : Role) → r ≡ Models → r ≡ Tiles → ⊥
models_tiles r is is' = cc

models_blocks : (r : Role) → r ≡ Models → r ≡ Blocks → ⊥
models_blocks r is is' = cc

tiles_blocks : (r : Role) → r ≡ Tiles → r ≡ Blocks → ⊥
tiles_blocks r is is' = cc

inside_list : (at : Inside) (e : Elem) (r : Role) → role_at at e ≡ r → owner_in r at.owner e ≡ at.owner → inside at e ≡ list_of at r
inside_list at e r is own =
    let made : Role → List ℕ → Inside = λ q o. record { parent = q; owner = o } in
    ap (λ q. made q (owner_in q at.owner e)) is ∙ ap (λ o. made r o) own

pub no_list : (r : Role) (before : List Elem) → (r ≡ Models → ⊥) → (r ≡ Tiles → ⊥) → (r ≡ Blocks → ⊥) → cousins r before ≡ []
no_list Models before no_models no_tiles no_blocks = absurd (no_models refl)
no_list Tiles before no_models no_tiles no_blocks = absurd (no_tiles refl)
no_list Blocks before no_models no_tiles no_blocks = absurd (no_blocks refl)
no_list _ before no_models no_tiles no_blocks = refl

module _ (at : Inside) (root : at.parent ≡ Architecture) (e : Elem) where
  named_models : role_at at e ≡ Models → bytes_eq (name_of e) (codes "models") ≡ true
  named_models is = is_models (name_of e) (subst (λ r. role_in r (name_of e) ≡ Models) root is)

  named_tiles : role_at at e ≡ Tiles → bytes_eq (name_of e) (codes "tiles") ≡ true
  named_tiles is = is_tiles (name_of e) (subst (λ r. role_in r (name_of e) ≡ Tiles) root is)

  named_blocks : role_at at e ≡ Blocks → bytes_eq (name_of e) (codes "complexblocklist") ≡ true
  named_blocks is = is_blocks (name_of e) (subst (λ r. role_in r (name_of e) ≡ Blocks) root is)

  not_models : (role_at at e ≡ Models → ⊥) → bytes_eq (name_of e) (codes "models") ≡ true → ⊥
  not_models other named = other (subst (λ r. role_in r (name_of e) ≡ Models) (sym root) (from_models (name_of e) named))

  not_tiles : (role_at at e ≡ Tiles → ⊥) → bytes_eq (name_of e) (codes "tiles") ≡ true → ⊥
  not_tiles other named = other (subst (λ r. role_in r (name_of e) ≡ Tiles) (sym root) (from_tiles (name_of e) named))

  not_blocks : (role_at at e ≡ Blocks → ⊥) → bytes_eq (name_of e) (codes "complexblocklist") ≡ true → ⊥
  not_blocks other named = other (subst (λ r. role_in r (name_of e) ≡ Blocks) (sym root) (from_blocks (name_of e) named))

  models_same : (before : List Elem) (t : Taken) → (role_at at e ≡ Models → ⊥) → Knows (list_of at Models) t (cousins Models before) →
      Knows (list_of at Models) t (cousins Models (before ++ e ∷ []))
  models_same before t other knows = subst (λ b. Knows (list_of at Models) t b) (sym (same (codes "models") before e (not_models other))) knows

  tiles_same : (before : List Elem) (t : Taken) → (role_at at e ≡ Tiles → ⊥) → Knows (list_of at Tiles) t (cousins Tiles before) →
      Knows (list_of at Tiles) t (cousins Tiles (before ++ e ∷ []))
  tiles_same before t other knows = subst (λ b. Knows (list_of at Tiles) t b) (sym (same (codes "tiles") before e (not_tiles other))) knows

  blocks_same : (before : List Elem) (t : Taken) → (role_at at e ≡ Blocks → ⊥) → Knows (list_of at Blocks) t (cousins Blocks before) →
      Knows (list_of at Blocks) t (cousins Blocks (before ++ e ∷ []))
  blocks_same before t other knows = subst (λ b. Knows (list_of at Blocks) t b) (sym (same (codes "complexblocklist") before e (not_blocks other))) knows

  -- a list is passed, so that its names are met
  went_on : (r : Role) (word : List ℕ) (inner : Inside) (t t' : Taken) (before : List Elem) → inner ≡ list_of at r → bytes_eq (name_of e) word ≡ true →
      Knows (list_of at r) t (in_lists word before) → ((b : List Elem) → Knows inner t b → Knows inner t' (b ++ kids_of e)) →
      Knows (list_of at r) t' (in_lists word (before ++ e ∷ []))
  went_on r word inner t t' before place named knows next =
      subst (λ b. Knows (list_of at r) t' b) (sym (added word before e named))
      (subst (λ w. Knows w t' (in_lists word before ++ kids_of e)) place (next (in_lists word before) (subst (λ w. Knows w t (in_lists word before)) (sym place) knows)))

  pub knows_models : (lists : Lists) (t' : Taken) (inner : Inside) → inner ≡ inside at e → role_at at e ≡ Models →
      ((b : List Elem) → Knows inner lists.models b → Knows inner t' (b ++ kids_of e)) → (before : List Elem) → KnowsLists at lists before →
      KnowsLists at (record { models = t'; tiles = lists.tiles; blocks = lists.blocks }) (before ++ e ∷ [])
  knows_models lists t' inner place is next before knows = record {
    models = went_on Models (codes "models") inner lists.models t' before (place ∙ inside_list at e Models is refl) (named_models is) knows.models next;
    tiles = tiles_same before lists.tiles (models_tiles (role_at at e) is) knows.tiles;
    blocks = blocks_same before lists.blocks (models_blocks (role_at at e) is) knows.blocks;
  }

  pub knows_tiles : (lists : Lists) (t' : Taken) (inner : Inside) → inner ≡ inside at e → role_at at e ≡ Tiles →
      ((b : List Elem) → Knows inner lists.tiles b → Knows inner t' (b ++ kids_of e)) → (before : List Elem) → KnowsLists at lists before →
      KnowsLists at (record { models = lists.models; tiles = t'; blocks = lists.blocks }) (before ++ e ∷ [])
  knows_tiles lists t' inner place is next before knows = record {
    models = models_same before lists.models (λ other. models_tiles (role_at at e) other is) knows.models;
    tiles = went_on Tiles (codes "tiles") inner lists.tiles t' before (place ∙ inside_list at e Tiles is refl) (named_tiles is) knows.tiles next;
    blocks = blocks_same before lists.blocks (tiles_blocks (role_at at e) is) knows.blocks;
  }

  pub knows_blocks : (lists : Lists) (t' : Taken) (inner : Inside) → inner ≡ inside at e → role_at at e ≡ Blocks →
      ((b : List Elem) → Knows inner lists.blocks b → Knows inner t' (b ++ kids_of e)) → (before : List Elem) → KnowsLists at lists before →
      KnowsLists at (record { models = lists.models; tiles = lists.tiles; blocks = t' }) (before ++ e ∷ [])
  knows_blocks lists t' inner place is next before knows = record {
    models = models_same before lists.models (λ other. models_blocks (role_at at e) other is) knows.models;
    tiles = tiles_same before lists.tiles (λ other. tiles_blocks (role_at at e) other is) knows.tiles;
    blocks = went_on Blocks (codes "complexblocklist") inner lists.blocks t' before (place ∙ inside_list at e Blocks is refl) (named_blocks is) knows.blocks next;
  }

  pub knows_others : (lists : Lists) → (role_at at e ≡ Models → ⊥) → (role_at at e ≡ Tiles → ⊥) → (role_at at e ≡ Blocks → ⊥) →
      (before : List Elem) → KnowsLists at lists before → KnowsLists at lists (before ++ e ∷ [])
  knows_others lists no_models no_tiles no_blocks before knows = record {
    models = models_same before lists.models no_models knows.models;
    tiles = tiles_same before lists.tiles no_tiles knows.tiles;
    blocks = blocks_same before lists.blocks no_blocks knows.blocks;
  }

pub on_ok : {X E : Type 0} (r : Result X E) (P Q : Type 0) → OnOk r P → (P → Q) → OnOk r Q
on_ok (Ok x) P Q p on = on p
on_ok (Err e) P Q p on = tt

pub judges_alone : {X : Type 0} (r : Result X RuleError) (at inner : Inside) (kid : Elem) (before : List Elem) → inner ≡ inside at kid → cousins (role_at at kid) before ≡ [] →
    Judges r inner [] (kids_of kid) → Judges r (inside at kid) (cousins (role_at at kid) before) (kids_of kid)
judges_alone r at inner kid before same none_before judges =
    subst (λ b. Judges r (inside at kid) b (kids_of kid)) (sym none_before) (subst (λ w. Judges r w [] (kids_of kid)) same judges)

-- The fields of LUTs have the bits of their tables.
use Rattle.std.proofs.Common.{◌≡◌, ◌^◌, ◌⊎◌, inl, inr, ℕ, zero, suc, List, [], ◌∷◌, Option, Some, None, MatchOption, refl, ap, ◌∙◌, subst, arith}
use Rattle.arch_types.specs.declared.block.PbType.{PbType}
use Rattle.arch_types.specs.declared.block.Meta.{Meta}
use Rattle.arch_types.specs.Address.{Address}
use Rattle.meta_lines.specs.declared.types.Field.{Field}
use Rattle.meta_said.specs.declared.types.OwnerMeta.{OwnerMeta}
use Rattle.meta_said.specs.declared.types.LutFields.{LutFields}
use Rattle.meta_said.specs.Answers.{HasOneAnswer}
use Rattle.meta_said.specs.Owners.{Says, IsRefused}
use Rattle.lut_widths.specs.Fields.{UsesOfMode, UsesOfPbType, Misfits, IsLeast, width_of}
use Rattle.lut_fields.specs.Places.{OwnersSay}
use Rattle.lut_fields.specs.LutFields.{GivesBelow, HasField}

same_or_not : (a b : ℕ) → (a ≡ b) ⊎ (a ≡ b → ⊥)
same_or_not zero zero = inl refl
same_or_not zero (suc b) = inr (λ e. absurd (omega (arith, e)))
same_or_not (suc a) zero = inr (λ e. absurd (omega (arith, e)))
same_or_not (suc a) (suc b) = elim (same_or_not a b) [ inl e ↦ inl (ap suc e) | inr n ↦ inr (λ e. n (omega (arith, e))) ]

-- where no line misfits, a used line fits
used_fits : (Uses : LutFields → ℕ → Field → ℕ → Type 0) (luts : Option LutFields) (fields : LutFields) (line k : ℕ) (field : Field) → luts ≡ Some fields →
    MatchOption luts (Unit {0}) (λ x. IsLeast (Misfits (Uses x)) None) → Uses fields line field k → width_of field ≡ 2 ^ k
used_fits Uses None fields line k field is none uses = absurd (cc)
used_fits Uses (Some x) fields line k field is none uses = by (same_or_not (width_of field) (2 ^ k))
  where
    same : fields ≡ x
    same = cc

    by : (width_of field ≡ 2 ^ k) ⊎ (width_of field ≡ 2 ^ k → ⊥) → width_of field ≡ 2 ^ k
    by (inl fits) = fits
    by (inr other) = absurd (none line (record { field = field; inputs = k; uses = subst (λ (y : LutFields). Uses y line field k) same uses; other = other }))

-- what two readings of one owner's metadata say of LUTs
abbrev pub OneReading : Type 0
OneReading = (count : Option ℕ) (metas : List Meta) → HasOneAnswer (Says count metas) (IsRefused count metas)

same_luts : OneReading → (count : Option ℕ) (metas : List Meta) (a b : OwnerMeta) (fields : LutFields) → Says count metas a → Says count metas b → b.luts ≡ Some fields → a.luts ≡ Some fields
same_luts one count metas a b fields x y is = ap (λ (o : OwnerMeta). o.luts) ((one count metas).one a b x y) ∙ is

uses_below : (holder : PbType) (fields : LutFields) (below : Address) (k line : ℕ) (field : Field) → GivesBelow holder fields below k line field → UsesOfPbType holder fields line field k
uses_below holder fields [] k line field gives = inl gives
uses_below holder fields (hop ∷ hops) k line field gives =
    let kid = gives.2.0 in
    inr (
      kid.name,
      (
        hop.instance,
        record {
          number = hop.mode;
          mode = gives.0;
          opens = gives.1;
          holds = record { child = hop.child; kid = kid; opens = gives.2.1; named = refl; holds = (hops, gives.2.2) };
        },
        gives.2.3,
      ),
    )

pub field_fits : OneReading → (block : PbType) → OwnersSay block → (a : Address) (k line : ℕ) (field : Field) → HasField block a k line field → width_of field ≡ 2 ^ k
field_fits one block all a k line field (inl h) =
    let own = all.pb_types h.above h.holder h.there in
    used_fits (λ fields. UsesOfPbType h.holder fields) own.0.luts h.fields line k field
    (same_luts one (Some h.holder.count) h.holder.metas own.0 h.said h.fields own.1.texts h.says h.luts) own.1.widths
    (uses_below h.holder h.fields h.below k line field h.gives)
field_fits one block all a k line field (inr h) =
    let own = all.modes h.above h.parent h.hop.mode h.mode h.there h.is in
    used_fits (λ fields. UsesOfMode h.mode fields) own.0.luts h.fields line k field
    (same_luts one None _ own.0 h.said h.fields own.1.texts h.says h.luts) own.1.widths
    (h.kid.name, (h.hop.instance, record { child = h.hop.child; kid = h.kid; opens = h.opens; named = refl; holds = (h.below, h.held) }, h.gives))

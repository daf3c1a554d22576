use Rattle.std.proofs.Common.{codes, sym, ◌∙◌}
use Rattle.elem_attrs.specs.Attributes.{has_tag}
use Rattle.elem_reading.specs.Kids.{kids_named}
use Rattle.rr_items.specs.Features.{lists_features}
use Rattle.rr_items.proofs.Found.{found_here, passed_by, find_within, first_answers, others_answer}
use Rattle.rr_items.proofs.features.features_meta.Goals as goal
use Rattle.rr_items.proofs.features.features_meta.Goals.{then-has_tag+else-is_some, else-has_tag}

pub returns-then-is_some : goal.returns-then-is_some
returns-then-is_some c =
    let step = found_here lists_features (λ part. has_tag part (codes "metadata")) (λ part. kids_named part (codes "meta")) _
    c.loop-metadata.metadata-index c.metadata-item.result c.loop-metadata-test.true c.metadata-item.is (sym c.has_tag.ensures ∙ c.if-has_tag.true) in
    sym (first_answers c.features_within-found.result _ _ (c.features_within-found.ensures ∙ sym (find_within lists_features (λ kid. has_tag kid (codes "meta")) _)) (sym c.is_some.ensures ∙ c.if-is_some.true)) ∙ sym step ∙ c.loop-metadata.invariant

pub loop-metadata-preserved : goal.loop-metadata-preserved
loop-metadata-preserved c =
    elim c.if-has_tag.branch [
      | then-has_tag+else-is_some w ↦
          let step = found_here lists_features (λ part. has_tag part (codes "metadata")) (λ part. kids_named part (codes "meta")) _
          c.loop-metadata.metadata-index c.metadata-item.result c.loop-metadata-test.true c.metadata-item.is (sym c.has_tag.ensures ∙ w.if-has_tag.true) in
          sym (others_answer w.features_within-found.result _ _ (w.features_within-found.ensures ∙ sym (find_within lists_features (λ kid. has_tag kid (codes "meta")) _)) (sym w.is_some.ensures ∙ w.if-is_some.false)) ∙ sym step ∙ c.loop-metadata.invariant
      | else-has_tag w ↦
          sym (passed_by lists_features (λ part. has_tag part (codes "metadata")) (λ part. kids_named part (codes "meta")) _
          c.loop-metadata.metadata-index c.metadata-item.result c.loop-metadata-test.true c.metadata-item.is (sym c.has_tag.ensures ∙ w.if-has_tag.false)) ∙
          c.loop-metadata.invariant
    ]

-- Lines by their words, for those who write them.
use Rattle.std.proofs.Common.{◌≡◌, inl, inr, List, [], ◌∷◌, ◌++◌, refl}
use Rattle.std.specs.Prelude.{codes}
use Rattle.blif_elems.specs.declared.keyword.Keyword.TheVariants.{Model, Inputs, Outputs, Names, Latch, Subckt, Param, End}
use Rattle.blif_elems.specs.Written.{HaveKeywords}

pub keywords : HaveKeywords
keywords = record {
  model = λ name. inl (Model, refl, (name, refl, refl));
  inputs = λ nets all. inl (Inputs, refl, (all, refl));
  outputs = λ nets all. inl (Outputs, refl, (all, refl));
  names = λ inputs output all few. inl (Names, refl, (inputs, output, record { spelled = refl; nets = all; few = few }, refl));
  latch = λ loaded made control l m c.
      inl (Latch, refl, (loaded, made, control, record { init = []; spelled = refl; is_init = inl refl; nets = (l, m, c) }, refl));
  subckt = λ model pins. inl (Subckt, refl, (model, pins, refl, refl));
  param = λ name value. inl (Param, refl, (name, value, refl, refl));
  end = inl (End, refl, (refl, refl));
}

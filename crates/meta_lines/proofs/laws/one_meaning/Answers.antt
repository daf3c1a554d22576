use Rattle.meta_lines.proofs.Meaning.{features_mean_one, children_mean_one, params_mean_one}
use Rattle.meta_lines.proofs.Pinning.{mux_means_one}
use Rattle.meta_lines.proofs.Sorting.{types_mean_one, fields_mean_one, prefixes_mean_one}
use Rattle.meta_lines.proofs.laws.one_meaning.Goals as goal

pub returns : goal.returns
returns c =
    let form = c.one_form.ensures in
    record {
      prefix = prefixes_mean_one;
      features = features_mean_one form.bit;
      mux = mux_means_one form.bit form.sides c.one_reading.ensures;
      kind = types_mean_one;
      lut = fields_mean_one form.range;
      children = children_mean_one form.sides form.range form.child;
      params = params_mean_one form.sides form.range;
    }

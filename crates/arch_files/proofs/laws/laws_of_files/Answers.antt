use Rattle.arch_files.proofs.Exact.{one_arch, is_read}
use Rattle.arch_files.proofs.laws.laws_of_files.Goals as goal

pub returns : goal.returns
returns c = record {
  one = one_arch;
  read = is_read;
}

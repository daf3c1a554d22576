-- How the counters of a shelf or a sink in memory go on.
use Rattle.std.specs.Prelude.{ℕ, ◌+◌, min}

-- one more, or the counter's last value
abbrev pub counted : ℕ → ℕ
counted n = min (n + 1) 18446744073709551615

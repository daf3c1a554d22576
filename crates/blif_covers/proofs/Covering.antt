-- Patterns and values, cut before their last one; and indices.
use Rattle.std.proofs.Common.{◌≡◌, ◌+◌, ◌*◌, ◌^◌, ◌<◌, ℕ, zero, suc, Bool, true, false, List, [], ◌∷◌, ◌++◌, length, refl, sym, ap, ◌∙◌, arith}
use Rattle.std.proofs.Math.Nat.{pow-succ'}
use Rattle.blif_covers.specs.Covers.{StandsFor, Covers, bit_of, index_of}
use Rattle.blif_covers.specs.Seen.{index_before}

pub covers_more : (pattern : List ℕ) (byte : ℕ) (values : List Bool) (value : Bool) → Covers pattern values → StandsFor byte value →
    Covers (pattern ++ byte ∷ []) (values ++ value ∷ [])
covers_more [] byte [] value c s = (s, tt)
covers_more [] byte (v ∷ values) value c s = absurd c
covers_more (b ∷ pattern) byte [] value c s = absurd c
covers_more (b ∷ pattern) byte (v ∷ values) value c s = (c.0, covers_more pattern byte values value c.1 s)

pub record EndsIn (pattern : List ℕ) (byte : ℕ) (values : List Bool) : Type 0 where
  pub front : List Bool
  pub last : Bool
  pub spelled : values ≡ front ++ last ∷ []
  pub covers : Covers pattern front
  pub stands : StandsFor byte last

pub covers_less : (pattern : List ℕ) (byte : ℕ) (values : List Bool) → Covers (pattern ++ byte ∷ []) values → EndsIn pattern byte values
covers_less [] byte [] c = absurd c
covers_less [] byte (v ∷ []) c = record { front = []; last = v; spelled = refl; covers = tt; stands = c.0 }
covers_less [] byte (v ∷ w ∷ values) c = absurd c.1
covers_less (b ∷ pattern) byte [] c = absurd c
covers_less (b ∷ pattern) byte (v ∷ values) c =
    let e = covers_less pattern byte values c.1 in
    let is = e.spelled in
    record { front = v ∷ e.front; last = e.last; spelled = ap (λ vs. v ∷ vs) is; covers = (c.0, e.covers); stands = e.stands }

pub index_more : (values : List Bool) (value : Bool) (behind : ℕ) → index_before (values ++ value ∷ []) behind ≡ index_before values (bit_of value + 2 * behind)
index_more [] value behind = refl
index_more (v ∷ values) value behind = ap (λ n. bit_of v + 2 * n) (index_more values value behind)

pub index_alone : (values : List Bool) → index_before values 0 ≡ index_of values
index_alone [] = refl
index_alone (v ∷ values) = ap (λ n. bit_of v + 2 * n) (index_alone values)

pub same_length : (pattern : List ℕ) (values : List Bool) → Covers pattern values → length values ≡ length pattern
same_length [] [] c = refl
same_length [] (v ∷ values) c = absurd c
same_length (b ∷ pattern) [] c = absurd c
same_length (b ∷ pattern) (v ∷ values) c = omega (arith, same_length pattern values c.1)

-- one list of values, of one length, has an index
pub one_index : (values others : List Bool) → length values ≡ length others → index_of values ≡ index_of others → values ≡ others
one_index [] [] len same = refl
one_index [] (o ∷ others) len same = absurd (omega arith)
one_index (v ∷ values) [] len same = absurd (omega arith)
one_index (true ∷ values) (true ∷ others) len same = ap (λ vs. true ∷ vs) (one_index values others (omega arith) (omega arith))
one_index (false ∷ values) (false ∷ others) len same = ap (λ vs. false ∷ vs) (one_index values others (omega arith) (omega arith))
one_index (true ∷ values) (false ∷ others) len same = absurd (omega arith)
one_index (false ∷ values) (true ∷ others) len same = absurd (omega arith)

pub index_low : (values : List Bool) → index_of values < 2 ^ length values
index_low [] = omega arith
index_low (true ∷ values) = grind (arith, index_low values)
index_low (false ∷ values) = grind (arith, index_low values)

-- each number below 2^k is the index of k values
pub record IsIndexed (count index : ℕ) : Type 0 where
  pub values : List Bool
  pub many : length values ≡ count
  pub is : index_of values ≡ index

bit_and_rest : (n : ℕ) → (b : Bool) × (m : ℕ) × (n ≡ bit_of b + 2 * m)
bit_and_rest zero = (false, 0, omega arith)
bit_and_rest (suc n) = go (bit_and_rest n)
  where
    go : (b : Bool) × (m : ℕ) × (n ≡ bit_of b + 2 * m) → (b : Bool) × (m : ℕ) × (suc n ≡ bit_of b + 2 * m)
    go (false, m, is) = (true, m, omega arith)
    go (true, m, is) = (false, m + 1, omega arith)

pub indexed : (count index : ℕ) → index < 2 ^ count → IsIndexed count index
indexed zero index low = record { values = []; many = refl; is = omega arith }
indexed (suc count) index low =
    let parts = bit_and_rest index in
    let b = parts.0 in
    let m = parts.1 in
    let is = parts.2 in
    let rest = indexed count m (half b m is) in
    record { values = b ∷ rest.values; many = omega (arith, rest.many); is = ap (λ n. bit_of b + 2 * n) rest.is ∙ sym is }
  where
    half : (b : Bool) (m : ℕ) → index ≡ bit_of b + 2 * m → m < 2 ^ count
    half false m is = omega (arith, low, pow-succ' 2 count)
    half true m is = omega (arith, low, pow-succ' 2 count)

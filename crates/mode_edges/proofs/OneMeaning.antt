-- A word names one list of pins.
use Rattle.std.proofs.Common.{◌≡◌, ◌<◌, ◌⊎◌, inl, inr, ℕ, List, [], ◌∷◌, ◌++◌, Some, None, map, slice_get, sym, ◌∙◌, ap, subst, arith}
use Rattle.std.specs.List.{flat_map}
use Rattle.vtr_base.specs.Lists.{IsFirstPlace}
use Rattle.arch_types.specs.declared.block.PbType.{PbType}
use Rattle.arch_types.specs.declared.block.Mode.{Mode}
use Rattle.arch_types.specs.declared.block.Port.{Port}
use Rattle.arch_types.specs.declared.block.Side.{Side}
use Rattle.arch_types.specs.Tree.{kids_of}
use Rattle.mode_edges.specs.declared.pin.LocalPin.{LocalPin}
use Rattle.mode_edges.specs.declared.pin.EdgeEnd.{EdgeEnd}
use Rattle.mode_edges.specs.PinWords.{Index, Word, IsPart, AreMembers, IsOwnSide, IsChildSide, own_pin, child_pin, NamesPort, NamesOwn, NamesChild, Names, NamesAll, ReadsPins, without_braces}
use Rattle.mode_edges.proofs.OneReading.{part_one, word_one, words_one}

pub place_one : {X : Type 0} (xs : List X) (x : X) (p q : ℕ) → IsFirstPlace xs x p → IsFirstPlace xs x q → p ≡ q
place_one xs x p q at_p at_q =
    let not_less : p < q → ⊥ = λ less. at_q.first p less at_p.there in
    let not_more : q < p → ⊥ = λ more. at_p.first q more at_q.there in
    omega arith

same_item : {X : Type 0} (xs : List X) (p q : ℕ) (x y : X) → p ≡ q → slice_get xs p ≡ Some x → slice_get xs q ≡ Some y → x ≡ y
same_item xs p q x y e at_p at_q = cc

members_one : (index : Index) (count : ℕ) (ms ns : List ℕ) → AreMembers index count ms → AreMembers index count ns → ms ≡ ns
members_one None count ms ns a b = a ∙ sym b
members_one (Some r) count ms ns a b = a.1 ∙ sym b.1

-- what one reading of a port's name and bits has in common with another
pub record SamePort (port q : ℕ) (bits cs : List ℕ) (one other : Port) : Type 0 where
  pub place : port ≡ q
  pub port_is : one ≡ other
  pub bits_are : bits ≡ cs

pub port_one : (ports : List Port) (F G : Side → Type 0) (w : Word) (port q : ℕ) (bits cs : List ℕ) (a : NamesPort ports F w port bits) (b : NamesPort ports G w q cs) →
    SamePort port q bits cs a.is b.is
port_one ports F G w port q bits cs a b =
    let place = place_one (map (λ p. p.name) ports) w.port port q a.first b.first in
    let same = same_item ports port q a.is b.is place a.there b.there in
    record {
      place = place;
      port_is = same;
      bits_are = members_one w.bits b.is.width bits cs (subst (λ (p : Port). AreMembers w.bits p.width bits) same a.members) b.members;
    }

pub own_one : (block : PbType) (role : EdgeEnd) (w : Word) (ps qs : List LocalPin) → NamesOwn block role w ps → NamesOwn block role w qs → ps ≡ qs
own_one block role w ps qs a b =
    let same = port_one block.ports (IsOwnSide role) (IsOwnSide role) w a.port b.port a.bits b.bits a.names b.names in
    a.are ∙ (ap (λ (n : ℕ). map (own_pin n) a.bits) same.place ∙ (ap (λ (bits : List ℕ). map (own_pin b.port) bits) same.bits_are ∙ sym b.are))

-- what a reading of a child's name has in common with what was read
pub record SameKid (index i : Index) (child c : ℕ) (one other : PbType) : Type 0 where
  pub index_is : index ≡ i
  pub place : child ≡ c
  pub kid_is : one ≡ other

pub kid_one : (block : PbType) (mode : Mode) (role : EdgeEnd) (w : Word) (pins : List LocalPin) (name : List ℕ) (index : Index) (place : ℕ) (kid : PbType)
    (a : NamesChild block mode role w pins) → IsPart w.head name index → IsFirstPlace (map (λ k. k.name) (kids_of mode)) name place →
    slice_get (kids_of mode) place ≡ Some kid → SameKid a.index index a.child place a.kid kid
kid_one block mode role w pins name index place kid a part first there =
    let same = part_one w.head a.name name a.index index a.part part in
    let at = place_one (map (λ k. k.name) (kids_of mode)) name a.child place
    (subst (λ n. IsFirstPlace (map (λ k. k.name) (kids_of mode)) n a.child) same.0 a.first) first in
    record { index_is = same.1; place = at; kid_is = same_item (kids_of mode) a.child place a.kid kid at a.there there }

pub child_one : (block : PbType) (mode : Mode) (role : EdgeEnd) (w : Word) (ps qs : List LocalPin) → NamesChild block mode role w ps → NamesChild block mode role w qs → ps ≡ qs
child_one block mode role w ps qs a b =
    let kid = kid_one block mode role w ps b.name b.index b.child b.kid a b.part b.first b.there in
    let names = subst (λ (k : PbType). NamesPort k.ports (IsChildSide role) w a.port a.bits) kid.kid_is a.names in
    let same = port_one b.kid.ports (IsChildSide role) (IsChildSide role) w a.port b.port a.bits b.bits names b.names in
    let kept = subst (λ (k : PbType). AreMembers a.index k.count a.instances) kid.kid_is a.members in
    let instances = members_one b.index b.kid.count a.instances b.instances
    (subst (λ (i : Index). AreMembers i b.kid.count a.instances) kid.index_is kept) b.members in
    a.are
    ∙ (ap (λ (c : ℕ). flat_map (λ instance. map (child_pin c instance a.port) a.bits) a.instances) kid.place
    ∙ (ap (λ (n : ℕ). flat_map (λ instance. map (child_pin b.child instance n) a.bits) a.instances) same.place
    ∙ (ap (λ (bits : List ℕ). flat_map (λ instance. map (child_pin b.child instance b.port) bits) a.instances) same.bits_are
    ∙ (ap (λ (is : List ℕ). flat_map (λ instance. map (child_pin b.child instance b.port) b.bits) is) instances ∙ sym b.are))))

word_names_one : (block : PbType) (mode : Mode) (role : EdgeEnd) (w : Word) (ps qs : List LocalPin) →
    NamesOwn block role w ps ⊎ NamesChild block mode role w ps → NamesOwn block role w qs ⊎ NamesChild block mode role w qs → ps ≡ qs
word_names_one block mode role w ps qs (inl a) (inl b) = own_one block role w ps qs a b
word_names_one block mode role w ps qs (inl a) (inr b) = absurd (b.other a.head)
word_names_one block mode role w ps qs (inr a) (inl b) = absurd (a.other b.head)
word_names_one block mode role w ps qs (inr a) (inr b) = child_one block mode role w ps qs a b

pub names_one : (block : PbType) (mode : Mode) (role : EdgeEnd) (text : List ℕ) (ps qs : List LocalPin) → Names block mode role text ps → Names block mode role text qs → ps ≡ qs
names_one block mode role text ps qs a b =
    word_names_one block mode role b.word ps qs
    (subst (λ (w : Word). NamesOwn block role w ps ⊎ NamesChild block mode role w ps) (word_one text a.word b.word a.is b.is) a.named) b.named

pub names_all_one : (block : PbType) (mode : Mode) (role : EdgeEnd) (texts : List (List ℕ)) (ps qs : List LocalPin) →
    NamesAll block mode role texts ps → NamesAll block mode role texts qs → ps ≡ qs
names_all_one block mode role [] ps qs a b = a ∙ sym b
names_all_one block mode role (text ∷ texts) ps qs (first, rest, names, more, are) (first', rest', names', more', are') =
    let front = names_one block mode role text first first' names names' in
    let behind = names_all_one block mode role texts rest rest' more more' in
    are ∙ (ap (λ (f : List LocalPin). f ++ rest) front ∙ (ap (λ (r : List LocalPin). first' ++ r) behind ∙ sym are'))

-- the pins of a list of words are one list
pub reads_one : (block : PbType) (mode : Mode) (role : EdgeEnd) (text : List ℕ) (ps qs : List LocalPin) →
    ReadsPins block mode role text ps → ReadsPins block mode role text qs → ps ≡ qs
reads_one block mode role text ps qs a b =
    names_all_one block mode role b.words ps qs
    (subst (λ (ws : List (List ℕ)). NamesAll block mode role ws ps) (words_one a.words b.words (without_braces text) a.are_words b.are_words) a.names) b.names

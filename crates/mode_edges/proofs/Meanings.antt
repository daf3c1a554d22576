-- What a word was found to name is what it names; and where nothing was found it names nothing.
use Rattle.std.proofs.Common.{◌≡◌, inl, inr, ℕ, List, Option, Some, None, MatchOption, map, slice_get, refl, sym, ◌∙◌, ap, subst}
use Rattle.std.specs.List.{flat_map}
use Rattle.vtr_base.specs.Lists.{IsFirstPlace}
use Rattle.arch_types.specs.declared.block.PbType.{PbType}
use Rattle.arch_types.specs.declared.block.Mode.{Mode}
use Rattle.arch_types.specs.declared.block.Port.{Port}
use Rattle.arch_types.specs.declared.block.Side.{Side}
use Rattle.arch_types.specs.Tree.{kids_of}
use Rattle.mode_edges.specs.declared.names.PinGroup.{PinGroup}
use Rattle.mode_edges.specs.declared.pin.LocalPin.{LocalPin}
use Rattle.mode_edges.specs.declared.pin.EdgeEnd.{EdgeEnd}
use Rattle.mode_edges.specs.declared.word.Ends.{Ends}
use Rattle.mode_edges.specs.declared.word.PinWord.{PinWord}
use Rattle.mode_edges.specs.PinWords.{Index, Word, IsWord, IsPart, AreMembers, IsOwnHead, IsOwnSide, IsChildSide, child_pin, NamesPort, NamesOwn, NamesChild, Names}
use Rattle.mode_edges.specs.Readers.{Stands, ReadsPart, ReadsWord, word_with, pins_of}
use Rattle.mode_edges.proofs.OneReading.{part_one, word_one}
use Rattle.mode_edges.proofs.OneMeaning.{port_one, kid_one}

any_side : (ports : List Port) (F : Side → Type 0) (w : Word) (port : ℕ) (bits : List ℕ) (a : NamesPort ports F w port bits) →
    NamesPort ports (λ s. s ≡ a.is.side) w port bits
any_side ports F w port bits a = record { first = a.first; is = a.is; there = a.there; side = refl; members = a.members }

with_side : (ports : List Port) (F : Side → Type 0) (side : Side) (w : Word) (port : ℕ) (bits : List ℕ) → F side →
    NamesPort ports (λ s. s ≡ side) w port bits → NamesPort ports F w port bits
with_side ports F side w port bits fits a =
    record { first = a.first; is = a.is; there = a.there; side = subst F (sym a.side) fits; members = a.members }

wrong_side : (ports : List Port) (F : Side → Type 0) (side : Side) (w : Word) (port q : ℕ) (bits cs : List ℕ) → (F side → ⊥) →
    NamesPort ports (λ s. s ≡ side) w port bits → NamesPort ports F w q cs → ⊥
wrong_side ports F side w port q bits cs wrong a b =
    let same = port_one ports (λ s. s ≡ side) F w port q bits cs a b in
    let is_side = ap (λ (p : Port). p.side) (sym same.port_is) ∙ a.side in
    wrong (subst F is_side b.side)

-- no port of the name with the bits that the word wants
abbrev pub NoPort : List Port → PinWord → Type 0
NoPort ports w = (index : Index) (side : Side) (port : ℕ) (bits : List ℕ) → Stands w.bits index → NamesPort ports (λ s. s ≡ side) (word_with w index) port bits → ⊥

-- this port, on this side, with these bits
abbrev pub ThePort : List Port → PinWord → Side → ℕ → List ℕ → Type 0
ThePort ports w side port bits = (index : Index) → Stands w.bits index → NamesPort ports (λ s. s ≡ side) (word_with w index) port bits

pub no_own_port : (block : PbType) (role : EdgeEnd) (w : PinWord) → NoPort block.ports w →
    (index : Index) (pins : List LocalPin) → Stands w.bits index → NamesOwn block role (word_with w index) pins → ⊥
no_own_port block role w none index pins stands own =
    none index own.names.is.side own.port own.bits stands (any_side block.ports (IsOwnSide role) (word_with w index) own.port own.bits own.names)

-- a part that was read, as the part of a child's name
part_read : (head name : List ℕ) (ends : Option Ends) (index : Index) (name' : List ℕ) → ReadsPart head name ends → IsPart head name' index → (name ≡ name') × Stands ends index
part_read head name ends index name' (i, part, stands) other =
    let same = part_one head name name' i index part other in
    (same.0, subst (Stands ends) same.1 stands)

pub no_kid : (block : PbType) (mode : Mode) (role : EdgeEnd) (w : PinWord) (kids : List PbType) (name : List ℕ) (ends : Option Ends) → kids ≡ kids_of mode →
    ReadsPart w.head.now name ends → ((place : ℕ) → IsFirstPlace (map (λ kid. kid.name) kids) name place → ⊥) →
    (index : Index) (pins : List LocalPin) → Stands w.bits index → NamesChild block mode role (word_with w index) pins → ⊥
no_kid block mode role w kids name ends are part none index pins stands a =
    let same = part_read w.head.now name ends a.index a.name part a.part in
    none a.child (subst (λ (ks : List PbType). IsFirstPlace (map (λ kid. kid.name) ks) name a.child) (sym are)
    (subst (λ (n : List ℕ). IsFirstPlace (map (λ kid. kid.name) (kids_of mode)) n a.child) (sym same.0) a.first))

-- the first child of a name that was read
pub record IsFound (mode : Mode) (head : List ℕ) (kids : List PbType) (name : List ℕ) (ends : Option Ends) (place : ℕ) (kid : PbType) : Type 0 where
  pub are : kids ≡ kids_of mode
  pub part : ReadsPart head name ends
  pub first : IsFirstPlace (map (λ kid. kid.name) kids) name place
  pub there : slice_get kids place ≡ Some kid

kid_found : (block : PbType) (mode : Mode) (role : EdgeEnd) (w : Word) (pins : List LocalPin) (kids : List PbType) (name : List ℕ) (ends : Option Ends) (place : ℕ) (kid : PbType) →
    IsFound mode w.head kids name ends place kid → (a : NamesChild block mode role w pins) → (a.kid ≡ kid) × Stands ends a.index
kid_found block mode role w pins kids name ends place kid found a =
    let same = part_read w.head name ends a.index a.name found.part a.part in
    let first = subst (λ (n : List ℕ). IsFirstPlace (map (λ k. k.name) (kids_of mode)) n place) same.0
    (subst (λ (ks : List PbType). IsFirstPlace (map (λ k. k.name) ks) name place) found.are found.first) in
    let there = subst (λ (ks : List PbType). slice_get ks place ≡ Some kid) found.are found.there in
    let one = kid_one block mode role w pins a.name a.index place kid a a.part first there in
    (one.kid_is, same.1)

pub no_instances : (block : PbType) (mode : Mode) (role : EdgeEnd) (w : PinWord) (kids : List PbType) (name : List ℕ) (ends : Option Ends) (place : ℕ) (kid : PbType) →
    IsFound mode w.head.now kids name ends place kid → ((i : Index) (ms : List ℕ) → Stands ends i → AreMembers i kid.count ms → ⊥) →
    (index : Index) (pins : List LocalPin) → Stands w.bits index → NamesChild block mode role (word_with w index) pins → ⊥
no_instances block mode role w kids name ends place kid found none index pins stands a =
    let k = kid_found block mode role (word_with w index) pins kids name ends place kid found a in
    none a.index a.instances k.1 (subst (λ (p : PbType). AreMembers a.index p.count a.instances) k.0 a.members)

pub no_child_port : (block : PbType) (mode : Mode) (role : EdgeEnd) (w : PinWord) (kids : List PbType) (name : List ℕ) (ends : Option Ends) (place : ℕ) (kid : PbType) →
    IsFound mode w.head.now kids name ends place kid → NoPort kid.ports w →
    (index : Index) (pins : List LocalPin) → Stands w.bits index → NamesChild block mode role (word_with w index) pins → ⊥
no_child_port block mode role w kids name ends place kid found none index pins stands a =
    let k = kid_found block mode role (word_with w index) pins kids name ends place kid found a in
    let names = subst (λ (p : PbType). NamesPort p.ports (IsChildSide role) (word_with w index) a.port a.bits) k.0 a.names in
    none index names.is.side a.port a.bits stands (any_side kid.ports (IsChildSide role) (word_with w index) a.port a.bits names)

pub wrong_child_side : (block : PbType) (mode : Mode) (role : EdgeEnd) (w : PinWord) (kids : List PbType) (name : List ℕ) (ends : Option Ends) (place : ℕ) (kid : PbType)
    (side : Side) (port : ℕ) (bits : List ℕ) → IsFound mode w.head.now kids name ends place kid → ThePort kid.ports w side port bits → (IsChildSide role side → ⊥) →
    (index : Index) (pins : List LocalPin) → Stands w.bits index → NamesChild block mode role (word_with w index) pins → ⊥
wrong_child_side block mode role w kids name ends place kid side port bits found the wrong index pins stands a =
    let k = kid_found block mode role (word_with w index) pins kids name ends place kid found a in
    let names = subst (λ (p : PbType). NamesPort p.ports (IsChildSide role) (word_with w index) a.port a.bits) k.0 a.names in
    wrong_side kid.ports (IsChildSide role) side (word_with w index) port a.port bits a.bits wrong (the index stands) names

pub is_child : (block : PbType) (mode : Mode) (role : EdgeEnd) (w : PinWord) (kids : List PbType) (name : List ℕ) (ends : Option Ends) (place : ℕ) (kid : PbType)
    (side : Side) (port : ℕ) (bits : List ℕ) (members : List ℕ) (child : ℕ) → (IsOwnHead block.name w.head.now → ⊥) →
    IsFound mode w.head.now kids name ends place kid → ((i : Index) → Stands ends i → AreMembers i kid.count members) →
    ThePort kid.ports w side port bits → IsChildSide role side → child ≡ place →
    (index : Index) → Stands w.bits index → NamesChild block mode role (word_with w index) (flat_map (λ instance. map (child_pin child instance port) bits) members)
is_child block mode role w kids name ends place kid side port bits members child other found are the fits at index stands = record {
  other = other;
  name = name;
  index = found.part.0;
  part = found.part.1;
  child = child;
  first = subst (λ (c : ℕ). IsFirstPlace (map (λ k. k.name) (kids_of mode)) name c) (sym at)
      (subst (λ (ks : List PbType). IsFirstPlace (map (λ k. k.name) ks) name place) found.are found.first);
  kid = kid;
  there = subst (λ (c : ℕ). slice_get (kids_of mode) c ≡ Some kid) (sym at) (subst (λ (ks : List PbType). slice_get ks place ≡ Some kid) found.are found.there);
  instances = members;
  members = are found.part.0 found.part.2;
  port = port;
  bits = bits;
  names = with_side kid.ports (IsChildSide role) side (word_with w index) port bits fits (the index stands);
  are = refl;
}

pub names_nothing : (block : PbType) (mode : Mode) (role : EdgeEnd) (text : List ℕ) → ((w : Word) → IsWord text w → ⊥) → (pins : List LocalPin) → Names block mode role text pins → ⊥
names_nothing block mode role text none pins a = none a.word a.is

-- what a function answers where the word names exactly the pins that it finds, or none
abbrev pub Answers : (List LocalPin → Type 0) → Option PinGroup → Type 0
Answers P o = MatchOption o ((pins : List LocalPin) → P pins → ⊥) (λ g. P (pins_of g))

abbrev pub AnswersWord : PinWord → (Word → List LocalPin → Type 0) → Option PinGroup → Type 0
AnswersWord w P o =
    MatchOption o ((index : Index) (pins : List LocalPin) → Stands w.bits index → P (word_with w index) pins → ⊥)
    (λ g. (index : Index) → Stands w.bits index → P (word_with w index) (pins_of g))

of_word : (text : List ℕ) (w : PinWord) → ReadsWord text w → (P : Word → List LocalPin → Type 0) (o : Option PinGroup) → AnswersWord w P o →
    Answers (λ pins. (word : Word) × IsWord text word × P word pins) o
of_word text w (index, is, stands) P None a = λ pins named.
    let same = word_one text named.0 (word_with w index) named.1 is in
    a index pins stands (subst (λ (v : Word). P v pins) same named.2)
of_word text w (index, is, stands) P (Some g) a = (word_with w index, is, a index stands)

answers_more : (P Q : List LocalPin → Type 0) → ((pins : List LocalPin) → P pins → Q pins) → ((pins : List LocalPin) → Q pins → P pins) →
    (o : Option PinGroup) → Answers P o → Answers Q o
answers_more P Q on back None a = λ pins q. a pins (back pins q)
answers_more P Q on back (Some g) a = on (pins_of g) a

pub names_own : (block : PbType) (mode : Mode) (role : EdgeEnd) (text : List ℕ) (w : PinWord) (r : Option PinGroup) → ReadsWord text w →
    IsOwnHead block.name w.head.now → AnswersWord w (NamesOwn block role) r → Answers (Names block mode role text) r
names_own block mode role text w r read own a =
    answers_more (λ pins. (word : Word) × IsWord text word × NamesOwn block role word pins) (Names block mode role text)
    (λ pins n. record { word = n.0; is = n.1; named = inl n.2 })
    (λ pins n. (n.word, n.is, own_of pins n)) r (of_word text w read (NamesOwn block role) r a)
  where
    own_of : (pins : List LocalPin) (n : Names block mode role text pins) → NamesOwn block role n.word pins
    own_of pins n = elim n.named [
      | inl o ↦ o
      | inr c ↦ absurd (c.other (subst (λ (v : Word). IsOwnHead block.name v.head)
          (word_one text (word_with w read.0) n.word read.1 n.is) own))
    ]

pub names_child : (block : PbType) (mode : Mode) (role : EdgeEnd) (text : List ℕ) (w : PinWord) (r : Option PinGroup) → ReadsWord text w →
    (IsOwnHead block.name w.head.now → ⊥) → AnswersWord w (NamesChild block mode role) r → Answers (Names block mode role text) r
names_child block mode role text w r read other a =
    answers_more (λ pins. (word : Word) × IsWord text word × NamesChild block mode role word pins) (Names block mode role text)
    (λ pins n. record { word = n.0; is = n.1; named = inr n.2 })
    (λ pins n. (n.word, n.is, child_of pins n)) r (of_word text w read (NamesChild block mode role) r a)
  where
    child_of : (pins : List LocalPin) (n : Names block mode role text pins) → NamesChild block mode role n.word pins
    child_of pins n = elim n.named [
      | inr c ↦ c
      | inl o ↦ absurd (other (subst (λ (v : Word). IsOwnHead block.name v.head)
          (sym (word_one text (word_with w read.0) n.word read.1 n.is)) o.head))
    ]

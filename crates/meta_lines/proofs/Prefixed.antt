-- Prefixes, line by line.
use Rattle.std.proofs.Common.{◌≡◌, ◌<◌, ◌+◌, ◌++◌, ◌⊎◌, inl, inr, ℕ, List, [], ◌∷◌, map, take, drop, get_or, length, append-nil, refl, sym, ap, ◌∙◌, subst}
use Rattle.std.specs.List.{All, flat_map}
use Rattle.std.proofs.lemmas.Grind.{flat_map-append}
use Rattle.std.proofs.lemmas.List.Elements.{All-append}
use Rattle.fasm_text.specs.Names.{IsFeatureName}
use Rattle.meta_parts.specs.Words.{words_of}
use Rattle.meta_parts.specs.Lines.{LineAt, said_lines}
use Rattle.meta_parts.specs.Seen.{seen}
use Rattle.meta_parts.specs.declared.by_line.Line.{Line}
use Rattle.meta_lines.specs.Prefixes.{prefix_words, IsBadPrefix}
use Rattle.meta_lines.proofs.Listing.{map_more}
use Rattle.meta_lines.proofs.Stopping.{cut_at}

abbrev words_at : LineAt → List (List ℕ)
words_at line = words_of line.text

pub more_words : (lines : List Line) (k : ℕ) (d : Line) (found more words : List (List ℕ)) → k < length lines → (found ≡ flat_map (λ line. words_of line.text) (map seen (take k lines))) × All IsFeatureName found →
    words ≡ words_of (get_or lines k d).text.now → All IsFeatureName words → more ≡ found ++ words →
    (more ≡ flat_map (λ line. words_of line.text) (map seen (take (k + 1) lines))) × All IsFeatureName more
more_words lines k d found more words within said are names grown = (
  grown ∙ (ap (λ l. l ++ words) said.0 ∙ (ap (λ l. flat_map words_at (map seen (take k lines)) ++ l) (are ∙ sym (append-nil (words_of (get_or lines k d).text.now)))
      ∙ (sym (flat_map-append words_at (map seen (take k lines)) (seen (get_or lines k d) ∷ [])) ∙ ap (flat_map words_at) (sym (map_more seen lines k d within))))),
  subst (All IsFeatureName) (sym grown) (All-append IsFeatureName found words said.1 names),
)

pub bad_here : (text : List ℕ) (lines : List Line) (k : ℕ) (d : Line) (found words : List (List ℕ)) → k < length lines → map seen lines ≡ said_lines text →
    (found ≡ flat_map (λ line. words_of line.text) (map seen (take k lines))) × All IsFeatureName found →
    words ≡ words_of (get_or lines k d).text.now → (All IsFeatureName words → ⊥) → IsBadPrefix text (get_or lines k d).number
bad_here text lines k d found words within are said is bad = record {
  front = map seen (take k lines);
  line = seen (get_or lines k d);
  behind = map seen (drop (k + 1) lines);
  spelled = sym are ∙ cut_at lines k d within;
  names = subst (All IsFeatureName) said.0 said.1;
  bad = λ names. bad (subst (All IsFeatureName) (sym is) names);
  number = refl;
}

-- Blocks by the rows of their kinds, and sites on the right: where they go together, and what a placing or a violator says of blocks and sites.
use Rattle.std.proofs.Common.{◌≡◌, ◌<◌, ℕ, List, length, map, get_or, sym, ◌∙◌, ap, subst, arith}
use Rattle.std.specs.List.{Contains}
use Rattle.std.proofs.lemmas.List.{get_or_default, get_or-map, length-map}
use Rattle.std.proofs.lemmas.List.Elements.{Contains-get_or}
use Rattle.matching.specs.Bipartite.{Graph, IsPlacing, HasNoPlacing, IsViolator}
use Rattle.place_match.specs.Places.{IsFit, IsPlaced, HasNoPlaces, Outnumber}
use Rattle.place_match.specs.Tables.{AreNumbers, AreLinks, IsLink, ArePairs, IsReduced, GoByLinks}

pub reduced : (blocks sites : List ℕ) (fits : List (ℕ × ℕ)) (block_kinds site_kinds rows kinds : List ℕ) (links pairs : List (ℕ × ℕ)) →
    AreNumbers blocks (length blocks) block_kinds rows → AreNumbers sites (length sites) site_kinds kinds → AreLinks block_kinds site_kinds fits (length fits) links →
    ArePairs kinds links (length links) pairs → IsReduced blocks sites fits (record { rows = rows; pairs = pairs })
reduced blocks sites fits block_kinds site_kinds rows kinds links pairs b s l p = record {
  each = b.each;
  joined = λ block site (block_in, site_in, fit). (omega (arith, b.each, block_in), joined block site block_in site_in fit);
  only = λ block site (row_in, there). only block site (omega (arith, b.each, row_in)) there;
}
  where
    is_link : (block site : ℕ) → block < length blocks → site < length sites → IsLink block_kinds site_kinds (get_or blocks block 0, get_or sites site 0) (get_or rows block 0, get_or kinds site 0)
    is_link block site block_in site_in = record {
      block_within = b.within block block_in;
      site_within = s.within site site_in;
      block_kind = b.same block block_in;
      site_kind = s.same site site_in;
    }

    from_link : (block site : ℕ) → site < length sites → Contains {X = ℕ × ℕ} links (get_or rows block 0, get_or kinds site 0) → Contains {X = ℕ × ℕ} pairs (get_or rows block 0, site)
    from_link block site site_in (k, k_in, at) =
        let read : get_or links k (0, 0) ≡ (get_or rows block 0, get_or kinds site 0) = get_or_default links k (0, 0) (get_or rows block 0, get_or kinds site 0) k_in ∙ at in
        subst (λ n. Contains {X = ℕ × ℕ} pairs (n, site)) (ap (λ (x : ℕ × ℕ). x.0) read)
        (p.all k site k_in (omega (arith, s.each, site_in)) (sym (ap (λ (x : ℕ × ℕ). x.1) read)))

    joined : (block site : ℕ) → block < length blocks → site < length sites → Contains {X = ℕ × ℕ} fits (get_or blocks block 0, get_or sites site 0) →
        Contains {X = ℕ × ℕ} pairs (get_or rows block 0, site)
    joined block site block_in site_in (k, k_in, at) =
        let read : get_or fits k (0, 0) ≡ (get_or blocks block 0, get_or sites site 0) = get_or_default fits k (0, 0) (get_or blocks block 0, get_or sites site 0) k_in ∙ at in
        let mine = subst (λ f. IsLink block_kinds site_kinds f (get_or rows block 0, get_or kinds site 0)) (sym read) (is_link block site block_in site_in) in
        from_link block site site_in (l.all k (get_or rows block 0, get_or kinds site 0) k_in mine)

    only : (block site : ℕ) → block < length blocks → Contains {X = ℕ × ℕ} pairs (get_or rows block 0, site) → IsFit blocks sites fits block site
    only block site block_in there =
        let pair = p.only (get_or rows block 0, site) there in
        let site_in : site < length sites = omega (arith, s.each, pair.0) in
        let link = l.only (get_or rows block 0, get_or kinds site 0) pair.1 in
        let first : (get_or fits link.0 (0, 0)).0 ≡ get_or blocks block 0 = sym link.2.block_kind ∙ b.same block block_in in
        let second : (get_or fits link.0 (0, 0)).1 ≡ get_or sites site 0 = sym link.2.site_kind ∙ s.same site site_in in
        let both : get_or fits link.0 (0, 0) ≡ (get_or blocks block 0, get_or sites site 0) =
        ap (λ (m : ℕ). (m, (get_or fits link.0 (0, 0)).1)) first ∙ ap (λ (n : ℕ). (get_or blocks block 0, n)) second in
        (block_in, site_in, subst (Contains fits) both (Contains-get_or fits link.0 (0, 0) link.1))

-- a block goes with each site to which a link leads from its kind
pub go_by_links : (rows kinds : List ℕ) (links pairs : List (ℕ × ℕ)) → ArePairs kinds links (length links) pairs →
    GoByLinks (record { rows = rows; pairs = pairs }) rows kinds (map (λ (l : ℕ × ℕ). l.0) links) (map (λ (l : ℕ × ℕ). l.1) links)
go_by_links rows kinds links pairs p block site link block_in site_in link_in of_block of_site =
    let inside : link < length links = omega (arith, length-map links (λ (l : ℕ × ℕ). l.0)) in
    let block_is : (get_or links link (0, 0)).0 ≡ get_or rows block 0 = sym (get_or-map (λ (l : ℕ × ℕ). l.0) links link (0, 0) 0 inside) ∙ of_block in
    let site_is : get_or kinds site 0 ≡ (get_or links link (0, 0)).1 = sym of_site ∙ get_or-map (λ (l : ℕ × ℕ). l.1) links link (0, 0) 0 inside in
    (block_in, subst (λ n. Contains {X = ℕ × ℕ} pairs (n, site)) block_is (p.all link site inside site_in site_is))

-- a placing of the left numbers places the blocks
pub placed : (blocks sites : List ℕ) (fits : List (ℕ × ℕ)) (g : Graph) (places : List ℕ) → IsReduced blocks sites fits g → IsPlacing g places → IsPlaced blocks sites fits places
placed blocks sites fits g places r p = record {
  each = p.each ∙ r.each;
  fitting = λ block inside. r.only block (get_or places block 0) (p.joined block (omega (arith, r.each, inside)));
  apart = p.apart;
}

-- and the other way round
pub none_placed : (blocks sites : List ℕ) (fits : List (ℕ × ℕ)) (g : Graph) → IsReduced blocks sites fits g → HasNoPlacing g → HasNoPlaces blocks sites fits
none_placed blocks sites fits g r none places p = none places (record {
  each = p.each ∙ sym r.each;
  joined = λ left inside. r.joined left (get_or places left 0) (p.fitting left (omega (arith, r.each, inside)));
  apart = p.apart;
})

-- left numbers that outnumber their right ones are blocks that outnumber their sites
pub outnumbers : (blocks sites : List ℕ) (fits : List (ℕ × ℕ)) (g : Graph) (lefts rights : List ℕ) → IsReduced blocks sites fits g → IsViolator g lefts rights →
    Outnumber blocks sites fits lefts rights
outnumbers blocks sites fits g lefts rights r v = record {
  are_blocks = λ k inside. omega (arith, r.each, v.within k inside);
  blocks_apart = v.lefts_apart;
  sites_apart = v.rights_apart;
  wanted = λ k inside. let who = v.wanted k inside in (who.0, who.1, r.only who.0 (get_or rights k 0) who.2);
  all = λ block site among fit. v.all block site among (r.joined block site fit);
  one_more = v.one_more;
}

-- A swap that touches nothing that a move rests on leaves the move as it is.
use Rattle.std.proofs.Common.{◌≡◌, ◌≢◌, ℕ, zero, suc, ◌+◌, Bool, true, false, cond, ◌==◌, List, [], ◌∷◌, ◌++◌, Option, Some, None, slice_get, length, refl, sym, ap, subst, ◌∙◌, inl, inr, arith}
use Rattle.std.proofs.lemmas.Bool.{or_left, or_right, or_cases, eq-eqb, false≢true, false_from_ne_true, cases_Bool}
use Rattle.fab_arch.specs.declared.array.Site.{Site}
use Rattle.fab_net.specs.declared.netlist_types.BlockId.{BlockId}
use Rattle.fab_site.specs.declared.placement_types.Swap.{Swap}
use Rattle.fab_move.specs.declared.marks.Mark.{Mark}
use Rattle.fab_move.specs.declared.marks.Mark.TheVariants.{Block, Place, Net}
use Rattle.fab_move.specs.declared.proposals.Proposal.{Proposal}
use Rattle.fab_move.specs.declared.proposals.Proposal.TheVariants.{Nothing, Void, Move}
use Rattle.fab_net.specs.Netlist.{Netlist, has_number, counted, nets_of, net_at}
use Rattle.std.specs.Prelude.{slice_index}
use Rattle.fab_site.specs.Placement.{same_site, site_of, at, at_from, swapped}
use Rattle.fab_site.specs.Words.{pick_of}
use Rattle.fab_move.specs.Propose.{is_fixed, movable, target, propose_held, propose_to, propose_for, proposal}
use Rattle.fab_move.specs.Accept.{is_accepted}
use Rattle.fab_move.specs.Judge.{Problem, has_mark, meet, block_marks, other_marks, footprint, touched, judged_as, judged}
use Rattle.fab_commit.proofs.ModelLemmas.Marked.{same_site-true, same_site_refl, meet_shared, has_mark-append_left, has_mark-append_right, has_mark-nets, has_number-filter}
use Rattle.fab_commit.proofs.ModelLemmas.Sitings.{StandsSo, OtherAt, AwayFrom, OthersApart, Apart, bears, bears_other, at-swapped, site_of-swapped}
use Rattle.fab_commit.proofs.ModelLemmas.Changes.{NetsApart, change-swapped}

-- what a swap's blocks mark
abbrev marks_of : Netlist → BlockId → Option BlockId → List Mark
marks_of d b o = block_marks d b ++ other_marks d o

block_in : (d : Netlist) (b : BlockId) (o : Option BlockId) → has_mark (Block b) (marks_of d b o) ≡ true
block_in d b o = has_mark-append_left (Block b) (block_marks d b) (other_marks d o) (or_left (b.0 == b.0) _ (eq-eqb b.0 b.0 refl))

other_in : (d : Netlist) (b c : BlockId) → has_mark (Block c) (marks_of d b (Some c)) ≡ true
other_in d b c = has_mark-append_right (Block c) (block_marks d b) (block_marks d c) (or_left (c.0 == c.0) _ (eq-eqb c.0 c.0 refl))

net_of_block : (d : Netlist) (b : BlockId) (n : ℕ) → has_number n (counted d) ≡ true → has_number b.0 (net_at d n).blocks ≡ true → has_mark (Net (record { 0 = n })) (block_marks d b) ≡ true
net_of_block d b n h k = has_mark-nets n (nets_of d b.0) (has_number-filter (λ m. has_number b.0 (net_at d m).blocks) n (counted d) k h)

net_of_other : (d : Netlist) (o : Option BlockId) (n : ℕ) → has_number n (counted d) ≡ true → bears_other o (net_at d n).blocks ≡ true → has_mark (Net (record { 0 = n })) (other_marks d o) ≡ true
net_of_other d None n h k = k
net_of_other d (Some b) n h k = net_of_block d b n h k

net_in : (d : Netlist) (s : Swap) (n : ℕ) → has_number n (counted d) ≡ true → bears s (net_at d n).blocks ≡ true → has_mark (Net (record { 0 = n })) (marks_of d s.block s.other) ≡ true
net_in d s n h k =
    elim (or_cases (has_number s.block.0 (net_at d n).blocks) (bears_other s.other (net_at d n).blocks) k) [
      | inl e ↦ has_mark-append_left (Net (record { 0 = n })) (block_marks d s.block) (other_marks d s.other) (net_of_block d s.block n h e)
      | inr e ↦ has_mark-append_right (Net (record { 0 = n })) (block_marks d s.block) (other_marks d s.other) (net_of_other d s.other n h e)
    ]

-- lists that do not meet share no mark
not_shared : (m : Mark) (xs ys : List Mark) → meet xs ys ≡ false → has_mark m xs ≡ true → has_mark m ys ≡ true → ⊥
not_shared m xs ys h k l = false≢true (sym h ∙ meet_shared m xs ys k l)

blocks_apart : (a b : BlockId) (xs ys : List Mark) → meet xs ys ≡ false → has_mark (Block a) xs ≡ true → has_mark (Block b) ys ≡ true → a.0 ≢ b.0
blocks_apart a b xs ys h k l e =
    let same : b ≡ a = (λ i. record { 0 = sym e i }) in
    not_shared (Block a) xs ys h k (subst (λ (v : BlockId). has_mark (Block v) ys ≡ true) same l)

away : (d : Netlist) (b : BlockId) (o : Option BlockId) (c : ℕ) → ((a : BlockId) → has_mark (Block a) (marks_of d b o) ≡ true → a.0 ≢ c) → AwayFrom o c
away d b None c far = tt
away d b (Some a) c far = far a (other_in d b a)

others_apart : (d : Netlist) (b c : BlockId) (o q : Option BlockId) → ((a e : BlockId) → has_mark (Block a) (marks_of d b o) ≡ true → has_mark (Block e) (marks_of d c q) ≡ true → a.0 ≢ e.0) → OthersApart o q
others_apart d b c None q far = tt
others_apart d b c (Some a) q far = away d c q a.0 (λ e k same. far a e (other_in d b a) k (sym same))

-- the swap s touches nothing that m rests on
pub apart : (d : Netlist) (s m : Swap) → meet (touched d s) (footprint d (Move m)) ≡ false → Apart s m
apart d s m h =
    let far : (a e : BlockId) → has_mark (Block a) (marks_of d s.block s.other) ≡ true → has_mark (Block e) (marks_of d m.block m.other) ≡ true → a.0 ≢ e.0 =
    (λ a e k l. blocks_apart a e (touched d s) (footprint d (Move m)) h k l) in
    record {
      blocks = far s.block m.block (block_in d s.block s.other) (block_in d m.block m.other);
      other_block = away d s.block s.other m.block.0 (λ a k. far a m.block k (block_in d m.block m.other));
      block_other = away d m.block m.other s.block.0 (λ a k e. far s.block a (block_in d s.block s.other) k (sym e));
      others = others_apart d s.block m.block s.other m.other far;
    }

pub nets_apart : (p : Problem) (s m : Swap) → meet (touched p.design s) (footprint p.design (Move m)) ≡ false → NetsApart p.design s m
nets_apart p s m h = λ n in_design.
    let blocks = (net_at p.design n).blocks in
    elim (cases_Bool (bears s blocks)) [
      | inr e ↦ inl e
      | inl e ↦ elim (cases_Bool (bears m blocks)) [
        | inr f ↦ inr f
        | inl f ↦ absurd (not_shared (Net (record { 0 = n })) (touched p.design s) (footprint p.design (Move m)) h (net_in p.design s n in_design e) (net_in p.design m n in_design f))
      ]
    ]

-- a proposed swap says where its blocks are
abbrev pub IsLawful : List Site → Proposal → Type 0
IsLawful sites Nothing = Unit {0}
IsLawful sites (Void b to) = Unit {0}
IsLawful sites (Move s) = StandsSo sites s

-- the block that was found
abbrev Found : ℕ → List Site → Site → Option BlockId → Type 0
Found n sites site None = Unit {0}
Found n sites site (Some b) = (k : ℕ) × (b.0 ≡ n + k) × (site_of sites k ≡ site)

found_later : (n : ℕ) (y : Site) (ys : List Site) (site : Site) (o : Option BlockId) → Found (n + 1) ys site o → Found n (y ∷ ys) site o
found_later n y ys site None h = tt
found_later n y ys site (Some b) (k, e, f) = (suc k, omega arith, f)

found : (n : ℕ) (sites : List Site) (site : Site) → Found n sites site (at_from n sites site)
found n [] site = tt
found n (y ∷ ys) site = found_at n y ys site (found (n + 1) ys site) (same_site y site) refl
  where
    found_at : (n : ℕ) (y : Site) (ys : List Site) (site : Site) → Found (n + 1) ys site (at_from (n + 1) ys site) → (b : Bool) → same_site y site ≡ b → Found n (y ∷ ys) site (cond b (Some (record { 0 = n })) (at_from (n + 1) ys site))
    found_at n y ys site rest true e = (zero, omega arith, same_site-true y site e)
    found_at n y ys site rest false e = found_later n y ys site (at_from (n + 1) ys site) rest

holds_from_found : (sites : List Site) (site : Site) (o : Option BlockId) → Found 0 sites site o → OtherAt sites site o
holds_from_found sites site None h = tt
holds_from_found sites site (Some b) (k, e, f) =
    let same : k ≡ b.0 = omega arith in
    subst (λ (v : ℕ). site_of sites v ≡ site) same f

at_holds : (sites : List Site) (site : Site) → OtherAt sites site (at sites site)
at_holds sites site = holds_from_found sites site (at sites site) (found 0 sites site)

held_lawful : (p : Problem) (sites : List Site) (b : BlockId) (from to : Site) (o : Option BlockId) → site_of sites b.0 ≡ from → OtherAt sites to o → IsLawful sites (propose_held p.fixed b from to o)
held_lawful p sites b from to None stands holds = record { stands = stands; holds = tt }
held_lawful p sites b from to (Some c) stands holds =
    elim (is_fixed p.fixed c.0) as (λ v. IsLawful sites (cond v (Void b to) (Move (record { block = b; from = from; to = to; other = Some c })))) [
      | true ↦ tt
      | false ↦ record { stands = stands; holds = holds }
    ]

to_lawful : (p : Problem) (sites : List Site) (b : BlockId) (from to : Site) → site_of sites b.0 ≡ from → IsLawful sites (propose_to p.fixed sites b from to)
to_lawful p sites b from to stands =
    elim (same_site from to) as (λ v. IsLawful sites (cond v (Void b to) (propose_held p.fixed b from to (at sites to)))) [
      | true ↦ tt
      | false ↦ held_lawful p sites b from to (at sites to) stands (at_holds sites to)
    ]

for_lawful : (p : Problem) (sites : List Site) (range : ℕ) (words : List ℕ) (o : Option ℕ) → IsLawful sites (propose_for p.design p.grid p.fixed sites range words o)
for_lawful p sites range words None = tt
for_lawful p sites range words (Some b) = to_lawful p sites (record { 0 = b }) (site_of sites b) (target p.design p.grid b (site_of sites b) range words) refl

pub propose_lawful : (p : Problem) (sites : List Site) (range : ℕ) (words : List ℕ) → IsLawful sites (proposal p.design p.grid p.fixed sites range words)
unfolding proposal
propose_lawful p sites range words = for_lawful p sites range words (slice_get (movable p.design p.fixed) (pick_of (slice_index words 0) (length (movable p.design p.fixed))))

-- whatever comes of it, a proposal rests on its block and its target
abbrev RestsOn : Netlist → BlockId → Site → Proposal → Type 0
RestsOn d b to q = (has_mark (Place to) (footprint d q) ≡ true) × (has_mark (Block b) (footprint d q) ≡ true)

void_rests : (d : Netlist) (b : BlockId) (to : Site) → RestsOn d b to (Void b to)
void_rests d b to = (or_left (same_site to to) _ (same_site_refl to), or_left (b.0 == b.0) _ (eq-eqb b.0 b.0 refl))

move_rests : (d : Netlist) (s : Swap) → RestsOn d s.block s.to (Move s)
move_rests d s = (or_left (same_site s.to s.to) _ (same_site_refl s.to), block_in d s.block s.other)

held_rests : (p : Problem) (b : BlockId) (from to : Site) (o : Option BlockId) → RestsOn p.design b to (propose_held p.fixed b from to o)
held_rests p b from to None = move_rests p.design (record { block = b; from = from; to = to; other = None })
held_rests p b from to (Some c) =
    let s : Swap = record { block = b; from = from; to = to; other = Some c } in
    elim (is_fixed p.fixed c.0) as (λ v. RestsOn p.design b to (cond v (Void b to) (Move s))) [
      | true ↦ void_rests p.design b to
      | false ↦ move_rests p.design s
    ]

to_rests : (p : Problem) (sites : List Site) (b : BlockId) (from to : Site) → RestsOn p.design b to (propose_to p.fixed sites b from to)
to_rests p sites b from to =
    elim (same_site from to) as (λ v. RestsOn p.design b to (cond v (Void b to) (propose_held p.fixed b from to (at sites to)))) [
      | true ↦ void_rests p.design b to
      | false ↦ held_rests p b from to (at sites to)
    ]

sites_apart : (a b : Site) (xs ys : List Mark) → meet xs ys ≡ false → has_mark (Place a) xs ≡ true → has_mark (Place b) ys ≡ true → same_site a b ≡ false
sites_apart a b xs ys h k l =
    false_from_ne_true (same_site a b)
    (λ e. not_shared (Place a) xs ys h k (subst (λ (v : Site). has_mark (Place v) ys ≡ true) (sym (same_site-true a b e)) l))

-- a swap that touches neither the block nor the target
to_kept : (p : Problem) (sites : List Site) (s : Swap) (b : BlockId) (range : ℕ) (words : List ℕ) (marks : List Mark) → StandsSo sites s
    → meet (touched p.design s) marks ≡ false
    → has_mark (Place (target p.design p.grid b.0 (site_of sites b.0) range words)) marks ≡ true → has_mark (Block b) marks ≡ true
    → propose_to p.fixed (swapped sites s) b (site_of (swapped sites s) b.0) (target p.design p.grid b.0 (site_of (swapped sites s) b.0) range words)
    ≡ propose_to p.fixed sites b (site_of sites b.0) (target p.design p.grid b.0 (site_of sites b.0) range words)
to_kept p sites s b range words marks is h place block =
    let d = p.design in
    let from = site_of sites b.0 in
    let to = target p.design p.grid b.0 from range words in
    let far : (a : BlockId) → has_mark (Block a) (marks_of d s.block s.other) ≡ true → a.0 ≢ b.0 = (λ a k. blocks_apart a b (touched d s) marks h k block) in
    let stays : site_of (swapped sites s) b.0 ≡ from =
    site_of-swapped sites s b.0 (far s.block (block_in d s.block s.other)) (away d s.block s.other b.0 far) in
    let from_apart : same_site s.from to ≡ false = sites_apart s.from to (touched d s) marks h (or_left (same_site s.from s.from) _ (same_site_refl s.from)) place in
    let to_apart : same_site s.to to ≡ false = sites_apart s.to to (touched d s) marks h (or_right (same_site s.to s.from) _ (or_left (same_site s.to s.to) _ (same_site_refl s.to))) place in
    let held : at (swapped sites s) to ≡ at sites to = at-swapped sites s to is from_apart to_apart in
    (λ i. propose_to p.fixed (swapped sites s) b (stays i) (target p.design p.grid b.0 (stays i) range words))
    ∙ (λ i. cond (same_site from to) (Void b to) (propose_held p.fixed b from to (held i)))

for_kept : (p : Problem) (sites : List Site) (s : Swap) (range : ℕ) (words : List ℕ) (o : Option ℕ) → StandsSo sites s
    → meet (touched p.design s) (footprint p.design (propose_for p.design p.grid p.fixed sites range words o)) ≡ false
    → propose_for p.design p.grid p.fixed (swapped sites s) range words o ≡ propose_for p.design p.grid p.fixed sites range words o
for_kept p sites s range words None is h = refl
for_kept p sites s range words (Some b) is h =
    let rests = to_rests p sites (record { 0 = b }) (site_of sites b) (target p.design p.grid b (site_of sites b) range words) in
    to_kept p sites s (record { 0 = b }) range words (footprint p.design (propose_for p.design p.grid p.fixed sites range words (Some b))) is h rests.0 rests.1

pub propose_kept : (p : Problem) (sites : List Site) (s : Swap) (range : ℕ) (words : List ℕ) → StandsSo sites s
    → meet (touched p.design s) (footprint p.design (proposal p.design p.grid p.fixed sites range words)) ≡ false
    → proposal p.design p.grid p.fixed (swapped sites s) range words ≡ proposal p.design p.grid p.fixed sites range words
unfolding proposal
propose_kept p sites s range words is h =
    for_kept p sites s range words (slice_get (movable p.design p.fixed) (pick_of (slice_index words 0) (length (movable p.design p.fixed)))) is h

pub judged_as-footprint : (p : Problem) (sites : List Site) (t w : ℕ) (q : Proposal) → (judged_as p sites t w q).footprint ≡ footprint p.design q
judged_as-footprint p sites t w Nothing = refl
judged_as-footprint p sites t w (Void b to) = refl
judged_as-footprint p sites t w (Move m) = refl

judged_as_kept : (p : Problem) (sites : List Site) (s : Swap) (t w : ℕ) (q : Proposal)
    → meet (touched p.design s) (footprint p.design q) ≡ false
    → judged_as p (swapped sites s) t w q ≡ judged_as p sites t w q
judged_as_kept p sites s t w Nothing h = refl
judged_as_kept p sites s t w (Void b to) h = refl
judged_as_kept p sites s t w (Move m) h =
    let e = change-swapped p.design p.grid sites s m (apart p.design s m h) (nets_apart p s m h) in
    λ i. record { swap = Some m; change = e i; accepted = is_accepted (e i) t w; footprint = footprint p.design (Move m) }

-- noninterference: the proposal, the change, the answer and the footprint stay
pub judged_kept : (p : Problem) (sites : List Site) (s : Swap) (k t range : ℕ) → StandsSo sites s
    → meet (touched p.design s) (judged p sites k t range).footprint ≡ false
    → judged p (swapped sites s) k t range ≡ judged p sites k t range
unfolding judged
judged_kept p sites s k t range is h =
    let w = slice_index (p.words k) 3 in
    let q = proposal p.design p.grid p.fixed sites range (p.words k) in
    let g : meet (touched p.design s) (footprint p.design q) ≡ false =
    ap (meet (touched p.design s)) (sym (judged_as-footprint p sites t w q)) ∙ h in
    ap (judged_as p (swapped sites s) t w) (propose_kept p sites s range (p.words k) is g)
    ∙ judged_as_kept p sites s t w q g

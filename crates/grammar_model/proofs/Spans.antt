-- The nodes of a well placed tree stand at places of their own.
use Rattle.std.proofs.Common.{◌≡◌, ℕ, zero, suc, ◌<◌, ◌≤◌, arith, List, [], ◌∷◌, Option, Some, None, refl, ap, sym, subst, ◌∙◌, ◌⊎◌, inl, inr}
use Rattle.std.specs.Prelude.{option_and_then}
use Rattle.std.proofs.Math.Decide.{ℕ_discrete}
use Rattle.std.proofs.lemmas.Bool.{cases_lt}
use Rattle.grammar_model.specs.Spanned.{SpannedTree, Block, SpannedTrees, NoTrees, MoreTrees}
use Rattle.grammar_model.specs.Spans.{begin_of, end_of, spanned_statements, spanned_children, spanned_nth, spanned_part, spanned_among}

-- the trees stand in order between two places
abbrev pub AreBetween : ℕ → ℕ → SpannedTrees → Type 0
AreBetween low high NoTrees = low ≤ high
AreBetween low high (MoreTrees t ts) = (low ≤ begin_of t) × (begin_of t < end_of t) × AreBetween (end_of t) high ts

-- each tree is narrower than what stands between two places
abbrev pub AreNarrower : ℕ → ℕ → SpannedTrees → Type 0
AreNarrower low high NoTrees = Unit {0}
AreNarrower low high (MoreTrees t ts) = ((low < begin_of t) ⊎ (end_of t < high)) × AreNarrower low high ts

-- the statements of a block stand behind its first byte
abbrev pub IsOpened : SpannedTree → Type 0
IsOpened (Block f e ps ds ss c) = AreBetween (suc f) e (spanned_statements ss)
IsOpened t = Unit {0}

-- In a well placed tree the nodes below a node stand in order inside it, and each is narrower than it.
mutual
  pub data IsPlaced : SpannedTree → Type 0 where
    Placed : {t : SpannedTree} → begin_of t < end_of t → AreBetween (begin_of t) (end_of t) (spanned_children t) → AreNarrower (begin_of t) (end_of t) (spanned_children t) → AllPlaced (spanned_children t) → IsOpened t → IsPlaced t

  pub data AllPlaced : SpannedTrees → Type 0 where
    NonePlaced : AllPlaced NoTrees
    MorePlaced : {t : SpannedTree} {ts : SpannedTrees} → IsPlaced t → AllPlaced ts → AllPlaced (MoreTrees t ts)

-- a well placed tree has a byte
pub placed_some : {t : SpannedTree} → IsPlaced t → begin_of t < end_of t
placed_some (Placed s b n a o) = s

-- one of some trees, by its number
pub record Nth (ts : SpannedTrees) (low high bottom top : ℕ) (d : SpannedTree) : Type 0 where
  pub placed : IsPlaced d
  pub from : low ≤ begin_of d
  pub to : end_of d ≤ high
  pub narrow : (bottom < begin_of d) ⊎ (end_of d < top)

-- trees in order stand between places in order
pub between_le : (ts : SpannedTrees) (low high : ℕ) → AreBetween low high ts → low ≤ high
between_le NoTrees low high b = b
between_le (MoreTrees t ts) low high b = omega (arith, between_le ts (end_of t) high b.2)

-- a tree of a number is well placed
pub nth_placed : (ts : SpannedTrees) (k low high bottom top : ℕ) (d : SpannedTree) → AreBetween low high ts → AreNarrower bottom top ts → AllPlaced ts → spanned_nth ts k ≡ Some d → Nth ts low high bottom top d
nth_placed NoTrees k low high bottom top d b n a e = cc
nth_placed (MoreTrees t ts) zero low high bottom top d b n (MorePlaced p q) e =
    let same : t ≡ d = cc in
    subst (Nth (MoreTrees t ts) low high bottom top) same (record { placed = p; from = b.0; to = between_le ts (end_of t) high b.2; narrow = n.0 })
nth_placed (MoreTrees t ts) (suc k) low high bottom top d b n (MorePlaced p q) e =
    let r = nth_placed ts k (end_of t) high bottom top d b.2 n.1 q e in
    record { placed = r.placed; from = omega (arith, r.from, b.0, b.1); to = r.to; narrow = r.narrow }

-- a tree of a lower number ends before one of a higher number begins
pub nth_order : (ts : SpannedTrees) (k m low high : ℕ) (c d : SpannedTree) → AreBetween low high ts → k < m → spanned_nth ts k ≡ Some c → spanned_nth ts m ≡ Some d → end_of c ≤ begin_of d
nth_order NoTrees k m low high c d b l e f = cc
nth_order (MoreTrees t ts) zero zero low high c d b l e f = absurd (omega arith)
nth_order (MoreTrees t ts) zero (suc m) low high c d b l e f = let same : t ≡ c = cc in subst (λ c. end_of c ≤ begin_of d) same (nth_from ts m (end_of t) high d b.2 f)
  where
    nth_from : (ts : SpannedTrees) (m low high : ℕ) (d : SpannedTree) → AreBetween low high ts → spanned_nth ts m ≡ Some d → low ≤ begin_of d
    nth_from NoTrees m low high d b f = cc
    nth_from (MoreTrees u us) zero low high d b f = let same : u ≡ d = cc in subst (λ d. low ≤ begin_of d) same b.0
    nth_from (MoreTrees u us) (suc m) low high d b f = omega (arith, nth_from us m (end_of u) high d b.2 f, b.0, b.1)
nth_order (MoreTrees t ts) (suc k) zero low high c d b l e f = absurd (omega arith)
nth_order (MoreTrees t ts) (suc k) (suc m) low high c d b l e f = nth_order ts k m (end_of t) high c d b.2 (omega arith) e f

-- the first step of a path that leads somewhere
pub record Step (ts : SpannedTrees) (k : ℕ) (ks : List ℕ) (d : SpannedTree) : Type 0 where
  pub child : SpannedTree
  pub is : spanned_nth ts k ≡ Some child
  pub leads : spanned_part child ks ≡ Some d

-- such a path has a first step
pub step_of : (ts : SpannedTrees) (k : ℕ) (ks : List ℕ) (d : SpannedTree) → spanned_among ts (k ∷ ks) ≡ Some d → Step ts k ks d
step_of ts k ks d e = go (spanned_nth ts k) refl e
  where
    go : (o : Option SpannedTree) → spanned_nth ts k ≡ o → option_and_then (λ c. spanned_part c ks) o ≡ Some d → Step ts k ks d
    go None i e = cc
    go (Some c) i e = record { child = c; is = i; leads = e }

-- a node below a node stands inside it
pub record Inside (t d : SpannedTree) : Type 0 where
  pub placed : IsPlaced d
  pub from : begin_of t ≤ begin_of d
  pub to : end_of d ≤ end_of t

-- a node below a node stands inside it
pub part_inside : (ks : List ℕ) (t d : SpannedTree) → IsPlaced t → spanned_part t ks ≡ Some d → Inside t d
part_inside [] t d p e = let same : t ≡ d = cc in subst (Inside t) same (record { placed = p; from = omega arith; to = omega arith })
part_inside (k ∷ ks) t d (Placed s b n a o) e =
    let step = step_of (spanned_children t) k ks d e in
    let c = nth_placed (spanned_children t) k (begin_of t) (end_of t) (begin_of t) (end_of t) step.child b n a step.is in
    let r = part_inside ks step.child d c.placed step.leads in
    record { placed = r.placed; from = omega (arith, r.from, c.from); to = omega (arith, r.to, c.to) }

-- and narrower than it
part_narrower : (k : ℕ) (ks : List ℕ) (t d : SpannedTree) → IsPlaced t → spanned_part t (k ∷ ks) ≡ Some d → begin_of t ≡ begin_of d → end_of t ≡ end_of d → ⊥
part_narrower k ks t d (Placed s b n a o) e f g =
    let step = step_of (spanned_children t) k ks d e in
    let c = nth_placed (spanned_children t) k (begin_of t) (end_of t) (begin_of t) (end_of t) step.child b n a step.is in
    let r = part_inside ks step.child d c.placed step.leads in
    elim c.narrow [ inl h ↦ absurd (omega (arith, h, r.from, f)) | inr h ↦ absurd (omega (arith, h, r.to, g)) ]

-- nodes below different trees of a list stand apart
apart : (ts : SpannedTrees) (k m low high : ℕ) (x y c d : SpannedTree) → AreBetween low high ts → spanned_nth ts k ≡ Some x → spanned_nth ts m ≡ Some y → Inside x c → Inside y d → ¬ (k ≡ m) → begin_of c ≡ begin_of d → ⊥
apart ts k m low high x y c d b i j p q ne g = elim (cases_lt k m) [
  | inl l ↦ omega (arith, nth_order ts k m low high x y b l i j, p.to, q.from, placed_some p.placed, g)
  | inr l ↦ omega (arith, nth_order ts m k low high y x b (below l) j i, q.to, p.from, placed_some q.placed, g)
]
  where
    below : m ≤ k → m < k
    below l = elim (cases_lt m k) [ inl h ↦ h | inr h ↦ absurd (ne (omega arith)) ]

-- two paths into a list of trees begin with one step, where the rest of them is one path
same_paths : (ts : SpannedTrees) (k m : ℕ) (ks ms : List ℕ) (low high bottom top : ℕ) (c d : SpannedTree) → AreBetween low high ts → AreNarrower bottom top ts → AllPlaced ts → spanned_among ts (k ∷ ks) ≡ Some c → spanned_among ts (m ∷ ms) ≡ Some d → begin_of c ≡ begin_of d →
    ((x : SpannedTree) → IsPlaced x → spanned_part x ks ≡ Some c → spanned_part x ms ≡ Some d → ks ≡ ms) → k ∷ ks ≡ m ∷ ms
same_paths ts k m ks ms low high bottom top c d b n a e f g rest =
    let x = step_of ts k ks c e in
    let y = step_of ts m ms d f in
    let p = nth_placed ts k low high bottom top x.child b n a x.is in
    let q = nth_placed ts m low high bottom top y.child b n a y.is in
    elim (ℕ_discrete k m) [
      | yes same ↦
          let nths : Some x.child ≡ Some y.child = sym x.is ∙ ap (spanned_nth ts) same ∙ y.is in
          let child : x.child ≡ y.child = cc in
          let others = rest x.child p.placed x.leads (subst (λ u. spanned_part u ms ≡ Some d) (sym child) y.leads) in
          (λ v. same v ∷ others v)
      | no ne ↦ absurd (apart ts k m low high x.child y.child c d b x.is y.is (part_inside ks x.child c p.placed x.leads) (part_inside ms y.child d q.placed y.leads) ne g)
    ]

-- two paths to nodes at one place are one path
one_path : (ks ms : List ℕ) (t c d : SpannedTree) → IsPlaced t → spanned_part t ks ≡ Some c → spanned_part t ms ≡ Some d → begin_of c ≡ begin_of d → end_of c ≡ end_of d → ks ≡ ms
one_path [] [] t c d p e f g h = refl
one_path [] (m ∷ ms) t c d p e f g h = let same : t ≡ c = cc in absurd (part_narrower m ms t d p f (ap begin_of same ∙ g) (ap end_of same ∙ h))
one_path (k ∷ ks) [] t c d p e f g h = let same : t ≡ d = cc in absurd (part_narrower k ks t c p e (ap begin_of same ∙ sym g) (ap end_of same ∙ sym h))
one_path (k ∷ ks) (m ∷ ms) t c d (Placed s b n a o) e f g h = same_paths (spanned_children t) k m ks ms (begin_of t) (end_of t) (begin_of t) (end_of t) c d b n a e f g (λ x p u v. one_path ks ms x c d p u v g h)

-- trees between two places are narrower than one place more
pub narrow : (ts : SpannedTrees) (low high : ℕ) → AreBetween low high ts → AreNarrower low (suc high) ts
narrow NoTrees low high b = tt
narrow (MoreTrees t ts) low high b = (inr (omega (arith, between_le ts (end_of t) high b.2)), wider ts (narrow ts (end_of t) high b.2))
  where
    wider : (us : SpannedTrees) → AreNarrower (end_of t) (suc high) us → AreNarrower low (suc high) us
    wider NoTrees n = tt
    wider (MoreTrees u us) n = (elim n.0 [ inl h ↦ inl (omega (arith, h, b.0, b.1)) | inr h ↦ inr h ], wider us n.1)

-- the same in a list of trees that stand in order
pub one_path_among : (ks ms : List ℕ) (ts : SpannedTrees) (low high : ℕ) (c d : SpannedTree) → AreBetween low high ts → AllPlaced ts → spanned_among ts ks ≡ Some c → spanned_among ts ms ≡ Some d → begin_of c ≡ begin_of d → end_of c ≡ end_of d → ks ≡ ms
one_path_among [] ms ts low high c d b a e f g h = cc
one_path_among (k ∷ ks) [] ts low high c d b a e f g h = cc
one_path_among (k ∷ ks) (m ∷ ms) ts low high c d b a e f g h = same_paths ts k m ks ms low high low (suc high) c d b (narrow ts low high b) a e f g (λ x p u v. one_path ks ms x c d p u v g h)

-- Neighbouring statements are found where they stand.
use Rattle.std.proofs.Common.{◌≡◌, ℕ, zero, suc, ◌+◌, ◌-◌, ◌≤◌, arith, Bool, true, false, List, [], ◌∷◌, ◌++◌, length, Option, Some, None, refl, ap, sym, ◌∙◌}
use Rattle.std.specs.Prelude.{◌==◌, if◌then◌else◌, option_map}
use Rattle.std.proofs.lemmas.List.{drop_at}
use Rattle.std.proofs.lemmas.Bool.Decides.{nat_tests}
use Rattle.rb_base.specs.declared.text.Span.{Span}
use Rattle.grammar_model.specs.Spanned.{SpannedTree, SpannedTrees, NoTrees, MoreTrees}
use Rattle.grammar_model.specs.Spans.{begin_of, end_of, spanned_children, spanned_nth}
use Rattle.event_spans.specs.declared.place.Place.{Place}
use Rattle.event_spans.specs.declared.runs.Run.{Run}
use Rattle.event_spans.specs.Preorder.{trees_places}
use Rattle.event_spans.specs.Runs.{roots, ending, run_of}
use Rattle.event_spans.proofs.Children.{place_of, tree_places-children}
use Rattle.event_spans.proofs.RootsPassed.{roots-drop}

-- trees at a depth, without the nodes in them
abbrev root_places : ℕ → SpannedTrees → List Place
root_places d NoTrees = []
root_places d (MoreTrees t ts) = place_of d t ∷ root_places d ts

-- the outermost nodes of trees
roots-trees : (d : ℕ) (ts : SpannedTrees) → roots 0 (trees_places d ts) ≡ root_places d ts
roots-trees d NoTrees = refl
roots-trees d (MoreTrees t ts) =
    let below = trees_places (suc d) (spanned_children t) in
    ap (λ (ps : List Place). roots 0 (ps ++ trees_places d ts)) (tree_places-children d t)
    ∙ ap (λ (ps : List Place). place_of d t ∷ ps) (roots-drop (length below) (below ++ trees_places d ts) ∙ ap (roots 0) (drop_at below (trees_places d ts) (length below) refl) ∙ roots-trees d ts)

-- a tree that ends at a place
record Ends (n to : ℕ) (ts : SpannedTrees) (m : ℕ) : Type 0 where
  number : ℕ
  last : SpannedTree
  counted : m ≡ n + number
  at : spanned_nth ts number ≡ Some last
  ends : end_of last ≡ to

-- what is found ends there
found_ending : (ts : SpannedTrees) (n to d m : ℕ) → ending n to (root_places d ts) ≡ Some m → Ends n to ts m
found_ending NoTrees n to d m e = cc
found_ending (MoreTrees t ts) n to d m e = go (end_of t == to) refl e (found_ending ts (n + 1) to d m)
  where
    go : (b : Bool) → (end_of t == to) ≡ b → (if b then Some n else ending (n + 1) to (root_places d ts)) ≡ Some m → (ending (n + 1) to (root_places d ts) ≡ Some m → Ends (n + 1) to ts m) → Ends n to (MoreTrees t ts) m
    go true is found later = let same : n ≡ m = cc in record { number = 0; last = t; counted = omega arith; at = refl; ends = grind (arith, nat_tests) }
    go false is found later = let w = later found in record { number = suc w.number; last = w.last; counted = omega (arith, w.counted); at = w.at; ends = w.ends }

-- where none is found no tree ends there
no_ending : (ts : SpannedTrees) (n to d : ℕ) → ending n to (root_places d ts) ≡ None → (k : ℕ) (last : SpannedTree) → spanned_nth ts k ≡ Some last → end_of last ≡ to → ⊥
no_ending NoTrees n to d e k last at ends = cc
no_ending (MoreTrees t ts) n to d e k last at ends = go (end_of t == to) refl e k at (no_ending ts (n + 1) to d)
  where
    go : (b : Bool) → (end_of t == to) ≡ b → (if b then Some n else ending (n + 1) to (root_places d ts)) ≡ None → (k : ℕ) → spanned_nth (MoreTrees t ts) k ≡ Some last
        → (ending (n + 1) to (root_places d ts) ≡ None → (k : ℕ) (last : SpannedTree) → spanned_nth ts k ≡ Some last → end_of last ≡ to → ⊥) → ⊥
    go true is none k at later = cc
    go false is none zero at later = let same : t ≡ last = cc in let there : end_of t ≡ to = ap end_of same ∙ ends in grind (arith, nat_tests)
    go false is none (suc k) at later = later none k last at ends

-- neighbouring trees that begin and end with a span
pub record Runs (n : ℕ) (span : Span) (ts : SpannedTrees) (r : Run) : Type 0 where
  pub number : ℕ
  pub head : SpannedTree
  pub last : SpannedTree
  pub counted : r.first ≡ n + number
  pub many : 2 ≤ r.count
  pub at_first : spanned_nth ts number ≡ Some head
  pub at_last : spanned_nth ts (number + r.count - 1) ≡ Some last
  pub begins : begin_of head ≡ span.from
  pub ends : end_of last ≡ span.to

-- a run of so many from a number on
abbrev run : ℕ → ℕ → Run
run first count = record { first = first; count = count }

-- the first tree begins there
found_first : (t : SpannedTree) (ts : SpannedTrees) (n : ℕ) (span : Span) (d : ℕ) (r : Run) → begin_of t ≡ span.from → option_map (run n) (ending 2 span.to (root_places d ts)) ≡ Some r → Runs n span (MoreTrees t ts) r
found_first t ts n span d r begins found = go (ending 2 span.to (root_places d ts)) refl found
  where
    go : (o : Option ℕ) → ending 2 span.to (root_places d ts) ≡ o → option_map (run n) o ≡ Some r → Runs n span (MoreTrees t ts) r
    go None e is = cc
    go (Some m) e is =
        let w = found_ending ts 2 span.to d m e in
        let same : run n m ≡ r = cc in
        let first : n ≡ r.first = ap (λ (x : Run). x.first) same in
        let count : m ≡ r.count = ap (λ (x : Run). x.count) same in
        let index : suc w.number ≡ 0 + r.count - 1 = omega (arith, w.counted) in
        record {
          number = 0;
          head = t;
          last = w.last;
          counted = omega arith;
          many = omega (arith, w.counted);
          at_first = refl;
          at_last = ap (spanned_nth (MoreTrees t ts)) (sym index) ∙ w.at;
          begins = begins;
          ends = w.ends;
        }

-- what is found stands there
found_run : (ts : SpannedTrees) (n : ℕ) (span : Span) (d : ℕ) (r : Run) → run_of n span (root_places d ts) ≡ Some r → Runs n span ts r
found_run NoTrees n span d r e = cc
found_run (MoreTrees t ts) n span d r e = go (begin_of t == span.from) refl e (found_run ts (n + 1) span d r)
  where
    go : (b : Bool) → (begin_of t == span.from) ≡ b → (if b then option_map (run n) (ending 2 span.to (root_places d ts)) else run_of (n + 1) span (root_places d ts)) ≡ Some r
        → (run_of (n + 1) span (root_places d ts) ≡ Some r → Runs (n + 1) span ts r) → Runs n span (MoreTrees t ts) r
    go true is found later = found_first t ts n span d r (grind (arith, nat_tests)) found
    go false is found later =
        let w = later found in
        let many : 2 ≤ r.count = w.many in
        let index : suc (w.number + r.count - 1) ≡ suc w.number + r.count - 1 = omega arith in
        record {
          number = suc w.number;
          head = w.head;
          last = w.last;
          counted = omega (arith, w.counted);
          many = w.many;
          at_first = w.at_first;
          at_last = ap (spanned_nth (MoreTrees t ts)) (sym index) ∙ w.at_last;
          begins = w.begins;
          ends = w.ends;
        }

-- no two or more neighbouring trees stand there
abbrev pub NoRuns : Span → SpannedTrees → Type 0
NoRuns span ts = (k count : ℕ) (head last : SpannedTree) → spanned_nth ts k ≡ Some head → begin_of head ≡ span.from → 2 ≤ count → spanned_nth ts (k + count - 1) ≡ Some last → end_of last ≡ span.to → ⊥

-- where none ends behind the first tree
none_behind : (t : SpannedTree) (ts : SpannedTrees) (n : ℕ) (span : Span) (d : ℕ) → option_map (run n) (ending 2 span.to (root_places d ts)) ≡ None → NoRuns span (MoreTrees t ts)
none_behind t ts n span d none = go (ending 2 span.to (root_places d ts)) refl none
  where
    go : (o : Option ℕ) → ending 2 span.to (root_places d ts) ≡ o → option_map (run n) o ≡ None → NoRuns span (MoreTrees t ts)
    go (Some m) e is k count head last at begins many at_last ends = cc
    go None e is k count head last at begins many at_last ends =
        let index : k + count - 1 ≡ suc (k + count - 2) = omega arith in
        no_ending ts 2 span.to d e (k + count - 2) last (ap (spanned_nth (MoreTrees t ts)) (sym index) ∙ at_last) ends

-- where none are found none stand there
no_run : (ts : SpannedTrees) (n : ℕ) (span : Span) (d : ℕ) → run_of n span (root_places d ts) ≡ None → NoRuns span ts
no_run NoTrees n span d e = λ k count head last at begins many at_last ends. cc
no_run (MoreTrees t ts) n span d e = go (begin_of t == span.from) refl e (no_run ts (n + 1) span d)
  where
    go : (b : Bool) → (begin_of t == span.from) ≡ b → (if b then option_map (run n) (ending 2 span.to (root_places d ts)) else run_of (n + 1) span (root_places d ts)) ≡ None
        → (run_of (n + 1) span (root_places d ts) ≡ None → NoRuns span ts) → NoRuns span (MoreTrees t ts)
    go true is none later k count head last at begins many at_last ends = none_behind t ts n span d none k count head last at begins many at_last ends
    go false is none later zero count head last at begins many at_last ends =
        let same : t ≡ head = cc in
        let there : begin_of t ≡ span.from = ap begin_of same ∙ begins in
        grind (arith, nat_tests)
    go false is none later (suc k) count head last at begins many at_last ends =
        let index : suc k + count - 1 ≡ suc (k + count - 1) = omega arith in
        later none k count head last at begins many (ap (spanned_nth (MoreTrees t ts)) (sym index) ∙ at_last) ends

-- what is found among the outermost nodes stands there
pub run_stands : (ts : SpannedTrees) (span : Span) (d : ℕ) (r : Run) → run_of 0 span (roots 0 (trees_places d ts)) ≡ Some r → Runs 0 span ts r
run_stands ts span d r e = found_run ts 0 span d r (ap (run_of 0 span) (sym (roots-trees d ts)) ∙ e)

-- where none are found among the outermost nodes none stand there
pub no_run_stands : (ts : SpannedTrees) (span : Span) (d : ℕ) → run_of 0 span (roots 0 (trees_places d ts)) ≡ None → NoRuns span ts
no_run_stands ts span d e = no_run ts 0 span d (ap (run_of 0 span) (sym (roots-trees d ts)) ∙ e)

-- Sequences without a second list of statements: they are lawful, and lawful ones are such.
use Rattle.std.proofs.Common.{◌≡◌, ℕ, Bool, true, false, true≢false, Option, Some, None, if◌then◌else◌, refl, sym, inl, inr}
use Rattle.std.specs.Prelude.{◌&&◌, ◌||◌, ◌↔◌}
use Rattle.std.specs.Option.{option_or, option_map_or}
use Rattle.std.proofs.lemmas.Bool.{or_cases}
use Rattle.tree_model.specs.Tree.{Notes}
use Rattle.grammar_model.specs.Terminal.{Text}
use Rattle.grammar_model.specs.Spanned.{SpannedTree, SpannedStatements, NoStatements, MoreStatements, plain_tree, plain_statements}
use Rattle.pattern_model.specs.Patterns.{MetaOf, list_meta}
use Rattle.pattern_model.specs.Matches.{is_statement_kind, IsLawfulBy, AreLawfulStatements, has_list}
use Rattle.pattern_model.specs.Spelled.{pattern_of, statements_in}
use Rattle.pattern_trees.specs.Faults.{is_list, name_from, two_lists, statements_two_lists}

-- neither gives a place
pub or_parts : (o p : Option ℕ) → option_or o p ≡ None → (o ≡ None) × (p ≡ None)
or_parts None p h = (refl, h)
or_parts (Some n) p h = let bad : ⊥ = cc in absurd bad

pub or_neither : (o p : Option ℕ) → o ≡ None → p ≡ None → option_or o p ≡ None
or_neither None p h g = g
or_neither (Some n) p h g = let bad : ⊥ = cc in absurd bad

none_here : (o : Option (MetaOf Text)) (b : Bool) → option_map_or (λ m. true) o false ≡ false → b ≡ false → option_map_or (λ m. true) o b ≡ false
none_here None b h g = g
none_here (Some m) b h g = let bad : ⊥ = true≢false h in absurd bad

here_none : (o : Option (MetaOf Text)) (b : Bool) → option_map_or (λ m. true) o b ≡ false → (option_map_or (λ m. true) o false ≡ false) × (b ≡ false)
here_none None b h = (refl, h)
here_none (Some m) b h = let bad : ⊥ = true≢false h in absurd bad

none_behind : (o : Option (MetaOf Text)) (b : Bool) → (option_map_or (λ m. true) o false ≡ true → b ≡ false) → option_map_or (λ m. b) o false ≡ false
none_behind None b h = refl
none_behind (Some m) b h = h refl

behind_none : (o : Option (MetaOf Text)) (b : Bool) → option_map_or (λ m. b) o false ≡ false → option_map_or (λ m. true) o false ≡ true → b ≡ false
behind_none None b h e = let bad : ⊥ = true≢false (sym e) in absurd bad
behind_none (Some m) b h e = h

-- tests that are joined
or_first : (a b : Bool) → a ≡ true → (a || b) ≡ true
or_first a b h = rw h refl

pub or_second : (a b : Bool) → b ≡ true → (a || b) ≡ true
or_second true b h = refl
or_second false b h = h

not_both : (a b : Bool) → (a ≡ true → b ≡ false) → (a && b) ≡ false
not_both true b h = h refl
not_both false b h = refl

both_not : (a b : Bool) → (a && b) ≡ false → a ≡ true → b ≡ false
both_not true b h e = h
both_not false b h e = let bad : ⊥ = true≢false (sym e) in absurd bad

-- no place is given by a test
unless : (b : Bool) (n : ℕ) (o : Option ℕ) → (if b then Some n else o) ≡ None → (b ≡ false) × (o ≡ None)
unless true n o h = let bad : ⊥ = cc in absurd bad
unless false n o h = (refl, h)

unless_none : (b : Bool) (n : ℕ) (o : Option ℕ) → b ≡ false → o ≡ None → (if b then Some n else o) ≡ None
unless_none true n o h g = let bad : ⊥ = true≢false h in absurd bad
unless_none false n o h g = g

-- statements behind others, of which one was a list or not
abbrev pub FitStatements : SpannedStatements → Type 0
FitStatements ss = (had : Bool) → (statements_two_lists had ss ≡ None) ↔ (AreLawfulStatements (statements_in (plain_statements ss)) × (had ≡ true → has_list (statements_in (plain_statements ss)) ≡ false))

pub none_fit : FitStatements NoStatements
none_fit had = ((λ z. (tt, λ e. refl)), (λ l. refl))

-- a statement in front of others
module _ (c : Notes) (f : ℕ) (t : SpannedTree) (ss : SpannedStatements) (a : (two_lists t ≡ None) ↔ IsLawfulBy is_statement_kind (pattern_of (plain_tree t))) (r : FitStatements ss) where
  abbrev listed : Option (MetaOf Text)
  listed = list_meta (pattern_of (plain_tree t))

  abbrev later : Bool
  later = has_list (statements_in (plain_statements ss))

  forth : (had : Bool) → statements_two_lists had (MoreStatements c f t ss) ≡ None → AreLawfulStatements (statements_in (plain_statements (MoreStatements c f t ss))) × (had ≡ true → has_list (statements_in (plain_statements (MoreStatements c f t ss))) ≡ false)
  forth had z =
      let u = unless (had && is_list t) (name_from t) (option_or (two_lists t) (statements_two_lists (had || is_list t) ss)) z in
      let p = or_parts (two_lists t) (statements_two_lists (had || is_list t) ss) u.1 in
      let q = (r (had || is_list t)).0 p.1 in
      ((a.0 p.0, q.0, none_behind listed later (λ e. q.1 (or_second had (is_list t) e))), (λ e. none_here listed later (both_not had (is_list t) u.0 e) (q.1 (or_first had (is_list t) e))))

  back : (had : Bool) → AreLawfulStatements (statements_in (plain_statements (MoreStatements c f t ss))) × (had ≡ true → has_list (statements_in (plain_statements (MoreStatements c f t ss))) ≡ false) → statements_two_lists had (MoreStatements c f t ss) ≡ None
  back had l =
      unless_none (had && is_list t) (name_from t) (option_or (two_lists t) (statements_two_lists (had || is_list t) ss)) (not_both had (is_list t) (λ e. (here_none listed later (l.1 e)).0))
      (or_neither (two_lists t) (statements_two_lists (had || is_list t) ss) (a.1 l.0.0)
      ((r (had || is_list t)).1 (l.0.1, (λ e. elim (or_cases had (is_list t) e) [ inl h ↦ (here_none listed later (l.1 h)).1 | inr h ↦ behind_none listed later l.0.2 h ]))))

  pub statement_fits : FitStatements (MoreStatements c f t ss)
  statement_fits had = (forth had, back had)

-- The free names of proper code are identifiers, and each of them stands once where each is taken once.
use Rattle.std.proofs.Common.{◌≡◌, ◌⊎◌, inl, inr, Bool, true, false, not, List, [], ◌∷◌, ◌++◌, map, length, refl, sym, subst, ◌∙◌, true≢false, arith}
use Rattle.std.specs.Prelude.{◌||◌}
use Rattle.std.specs.List.{list_any}
use Rattle.std.specs.Str.{bytes_eq}
use Rattle.std.specs.Prelude.{codes}
use Rattle.std.proofs.lemmas.Bool.{not-true}
use Rattle.rb_base.specs.Names.{text_eq}
use Rattle.rb_base.proofs.NamesLemmas.{text_eq-refl}
use Rattle.tree_model.specs.Tree.{TreeOf, var, literal, send, cascade, assign, block, brace, return, TreesOf, no_trees, more_trees, trees_of, MessagesOf, no_messages, more_messages, StatementsOf, no_statements, more_statements}
use Rattle.tree_model.specs.Path.{count}
use Rattle.scope_model.specs.SpecialNames.{is_pseudo_variable}
use Rattle.scope_model.specs.Scope.{declares}
use Rattle.scope_model.specs.FreeNames.{each_once, free_occurrences, free_in_trees, free_in_messages, free_in_statements}
use Rattle.grammar_model.specs.Checks.{Known}
use Rattle.reread_law.specs.WellFormed.{IsWord, AllWords}
use Rattle.reread_law.specs.Declarations.{repeats, known_names}
use Rattle.file_model.specs.Filing.{Text}
use Rattle.file_laws.proofs.Moves.{text_equal}
use Rattle.effect_laws.proofs.Items.{In, Once, in_either, filter_in, once_filter}
use Rattle.effect_laws.proofs.Tests.{any_in}
use Rattle.code_effect_laws.proofs.Proper.{IsProper, AreProper, AreProperMessages, AreProperStatements}

-- each of these names is an identifier
abbrev pub AreWords : List Text → Type 0
AreWords ns = (n : Text) → In ns n → IsWord n

both_words : (ms ns : List Text) → AreWords ms → AreWords ns → AreWords (ms ++ ns)
both_words ms ns h g n there = by (in_either ms ns n there)
  where
    by : In ms n ⊎ In ns n → IsWord n
    by (inl a) = h n a
    by (inr b) = g n b

mutual
  pub free_words : (t : TreeOf Text) (ks : List Known) → IsProper ks t → AreWords (free_occurrences text_eq is_pseudo_variable t)
  free_words (var n) ks p m (inl e) = subst IsWord e p
  free_words (var n) ks p m (inr h) = absurd h
  free_words (literal l) ks p m h = absurd h
  free_words (send r s xs) ks p m h = both_words (free_occurrences text_eq is_pseudo_variable r) (free_in_trees text_eq is_pseudo_variable xs) (free_words r ks p.0) (trees_words xs ks p.3) m h
  free_words (cascade r ms) ks p m h = both_words (free_occurrences text_eq is_pseudo_variable r) (free_in_messages text_eq is_pseudo_variable ms) (free_words r ks p.0) (messages_words ms ks p.3) m h
  free_words (assign n t) ks p m (inl e) = subst IsWord e p.0
  free_words (assign n t) ks p m (inr h) = free_words t ks p.3 m h
  free_words (block ps ds ss c) ks p m h =
      statements_words ss (known_names ps ds ++ ks) p.3 m (filter_in (λ n. not (declares text_eq is_pseudo_variable ps ds n)) (free_in_statements text_eq is_pseudo_variable ss) m h).0
  free_words (brace ts) ks p m h = trees_words ts ks p m h
  free_words (return t) ks p m h = free_words t ks p.0 m h

  trees_words : (ts : TreesOf Text) (ks : List Known) → AreProper ks ts → AreWords (free_in_trees text_eq is_pseudo_variable ts)
  trees_words no_trees ks p m h = absurd h
  trees_words (more_trees t ts) ks p m h = both_words (free_occurrences text_eq is_pseudo_variable t) (free_in_trees text_eq is_pseudo_variable ts) (free_words t ks p.0) (trees_words ts ks p.2) m h

  messages_words : (ms : MessagesOf Text) (ks : List Known) → AreProperMessages ks ms → AreWords (free_in_messages text_eq is_pseudo_variable ms)
  messages_words no_messages ks p m h = absurd h
  messages_words (more_messages s xs ms) ks p m h = both_words (free_in_trees text_eq is_pseudo_variable xs) (free_in_messages text_eq is_pseudo_variable ms) (trees_words xs ks p.1) (messages_words ms ks p.2) m h

  pub statements_words : (ss : StatementsOf Text) (ks : List Known) → AreProperStatements ks ss → AreWords (free_in_statements text_eq is_pseudo_variable ss)
  statements_words no_statements ks p m h = absurd h
  statements_words (more_statements c t ss) ks p m h = both_words (free_occurrences text_eq is_pseudo_variable t) (free_in_statements text_eq is_pseudo_variable ss) (free_words t ks p.1) (statements_words ss ks p.3) m h

-- names that each stand once
pub once_in : (ns : List Text) (n : Text) → In (each_once text_eq ns) n → In ns n
once_in [] n h = h
once_in (m ∷ ns) n (inl e) = inl e
once_in (m ∷ ns) n (inr h) = inr (once_in ns n (filter_in (λ k. not (text_eq m k)) (each_once text_eq ns) n h).0)

pub once_each : (ns : List Text) → Once (each_once text_eq ns)
once_each [] = tt
once_each (m ∷ ns) = (
  (λ h. true≢false (sym (text_eq-refl m) ∙ not-true (text_eq m m) (filter_in (λ k. not (text_eq m k)) (each_once text_eq ns) m h).1)),
  once_filter (λ k. not (text_eq m k)) (each_once text_eq ns) (once_each ns),
)

-- a list of them declares none twice
repeats_none : (ns seen : List Text) → Once ns → ((n : Text) → In seen n → In ns n → ⊥) → repeats seen ns ≡ false
repeats_none [] seen o h = refl
repeats_none (n ∷ ns) seen o h = by (list_any (text_eq n) seen) refl (repeats_none ns (n ∷ seen) o.1 later)
  where
    later : (m : Text) → In (n ∷ seen) m → In ns m → ⊥
    later m (inl e) g = o.0 (subst (In ns) (sym e) g)
    later m (inr k) g = h m k (inr g)

    by : (b : Bool) → list_any (text_eq n) seen ≡ b → repeats (n ∷ seen) ns ≡ false → (list_any (text_eq n) seen || repeats (n ∷ seen) ns) ≡ false
    by true q rest = let r = any_in (text_eq n) seen q in absurd (h r.0 r.1 (inl (text_equal n r.0 r.2)))
    by false q rest = λ i. q i || rest i

pub once_repeats : (ns : List Text) → Once ns → repeats [] ns ≡ false
once_repeats ns o = repeats_none ns [] o (λ n h g. h)

-- identifiers
pub all_words : (ns : List Text) → AreWords ns → AllWords ns
all_words [] h = tt
all_words (n ∷ ns) h = (h n (inl refl), all_words ns (λ m k. h m (inr k)))

-- as arguments of a message
pub vars_proper : (ks : List Known) (ns : List Text) → ((n : Text) → In ns n → IsWord n × (bytes_eq n (codes "super") ≡ false)) → AreProper ks (trees_of (map (λ (n : Text). var n) ns))
vars_proper ks [] h = tt
vars_proper ks (n ∷ ns) h = let a = h n (inl refl) in (a.0, a.1, vars_proper ks ns (λ m k. h m (inr k)))

pub vars_count : (ns : List Text) → count (trees_of (map (λ (n : Text). var n) ns)) ≡ length ns
vars_count [] = refl
vars_count (n ∷ ns) = omega (arith, vars_count ns)

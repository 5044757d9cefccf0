-- The statements of a sequence without the one that sets a temporary, in which what it was set to stands where it was read.
use Rattle.std.proofs.Common.{◌≡◌, ◌<◌, ℕ, zero, suc, ◌+◌, List, [], ◌∷◌, ◌++◌, filter, Some, None, refl, sym, ap, ◌∙◌, subst, arith, append_assoc}
use Rattle.std.specs.Prelude.{false, not, ◌||◌, map, codes}
use Rattle.std.specs.List.{list_any}
use Rattle.std.proofs.lemmas.List.Folds.{list_any-append}
use Rattle.rb_base.specs.Names.{text_eq}
use Rattle.tree_model.specs.Tree.{TreeOf, var, assign, StatementsOf, no_statements, more_statements, SequenceOf, Notes}
use Rattle.tree_model.specs.Path.{nth, statement_trees}
use Rattle.scope_model.specs.FreeNames.{take_statements, drop_statements}
use Rattle.scope_model.specs.SpecialNames.{is_pseudo_variable}
use Rattle.scope_model.specs.Scope.{PlacedScope, local_by}
use Rattle.scope_model.specs.declared.local.Local.TheVariants.{NotLocal}
use Rattle.image_model.specs.Means.{MeaningOf}
use Rattle.run_model.specs.Values.{Name}
use Rattle.run_model.proofs.RenamingLemmas.{text-same}
use Rattle.resolved_model.specs.Environments.{Declared, as_argument, as_temporary, opened, kind_in, declared_in}
use Rattle.resolved_model.proofs.Environments.{kind_of, kind-scopes}
use Rattle.unfolded_calls.specs.Unfolding.{StandIn}
use Rattle.unfolded_calls.proofs.Running.{none-some, some-same}
use Rattle.unfolded_places.specs.Becoming.{BecomeLines, lines_none, lines_more, Becomes}
use Rattle.unfolded_places.specs.Inlining.{PlainActual}
use Rattle.command_model.specs.Sequences.{joined, noted, first_notes}
use Rattle.code_command_laws.proofs.DeclaredOnce.{RoundOne}
use Rattle.let_laws.specs.ReadsFirst.{IsWithout, LinesWithout, ReadsFirst}
use Rattle.let_laws.specs.Lets.{valued, LetLines, let_later, let_value, let_first, IsLet}
use Rattle.let_laws.proofs.ScopesRound.{fresh-scope}
use Rattle.let_laws.proofs.Valued.{tree_valued, lines_valued, tree-stays, lines-stay}

-- one of the statements by number, of which those behind a number are the rest
pub nth-behind : (ss : StatementsOf Name) (k j : ℕ) → nth (statement_trees (drop_statements k ss)) j ≡ nth (statement_trees ss) (k + j)
nth-behind ss zero j = ap (nth (statement_trees ss)) (none j)
  where
    none : (j : ℕ) → j ≡ 0 + j
    none j = omega arith
nth-behind no_statements (suc k) j = refl
nth-behind (more_statements c t ss) (suc k) j = nth-behind ss k j ∙ ap (nth (statement_trees (more_statements c t ss))) (next k j)
  where
    next : (k j : ℕ) → suc (k + j) ≡ suc k + j
    next k j = omega arith

-- statements of which each is without a name
pub all-without : (x : Name) (ss : StatementsOf Name) → ((j : ℕ) (t : TreeOf Name) → nth (statement_trees ss) j ≡ Some t → IsWithout x t) → LinesWithout x ss
all-without x no_statements h = tt
all-without x (more_statements c t ss) h = (h 0 t refl, all-without x ss (λ j u e. h (suc j) u e))

module _ (f : Name → MeaningOf Name) (x : Name) (A B : List Declared) (v : TreeOf Name) where
  -- statements of which each becomes the one with the value
  pub each-becomes : (ss : StatementsOf Name) → ((j : ℕ) (t : TreeOf Name) → nth (statement_trees ss) j ≡ Some t → Becomes (valued x v A B) A B t (tree_valued x v t)) → BecomeLines (valued x v A B) A B ss (lines_valued x v ss)
  each-becomes no_statements h = lines_none
  each-becomes (more_statements c t ss) h = lines_more c c (h 0 t refl) (each-becomes ss (λ j u e. h (suc j) u e))

  -- The statements behind the one that sets the temporary: the value is plain, and stands for each read; or the first of them reads it first, and no other one does.
  pub data Behind : StatementsOf Name → Type 0 where
    behind_plain : (d : Notes) (t : TreeOf Name) (ss : StatementsOf Name) (a : StandIn) → PlainActual f B v a → BecomeLines (valued x v A B) A B (more_statements d t ss) (lines_valued x v (more_statements d t ss)) → Behind (more_statements d t ss)
    behind_first : (d : Notes) (t : TreeOf Name) (ss : StatementsOf Name) (n : ℕ) → (v ≡ var (codes "super") → ⊥) → ReadsFirst f B x v n t (tree_valued x v t) → LinesWithout x ss → Behind (more_statements d t ss)

  -- what stands in place of the statements from that one on
  abbrev pub inlined_from : ℕ → StatementsOf Name → StatementsOf Name
  inlined_from k ss = joined (take_statements k ss) (noted (first_notes (drop_statements k ss)) (joined no_statements (drop_statements 1 (drop_statements k ss))))

  other-notes : (d d' : Notes) (t t' : TreeOf Name) (ss ss' : StatementsOf Name) → BecomeLines (valued x v A B) A B (more_statements d t ss) (more_statements d t' ss') → BecomeLines (valued x v A B) A B (more_statements d t ss) (more_statements d' t' ss')
  other-notes d d' t t' ss ss' (lines_more n n' p q) = lines_more d d' p q

  here : (c : Notes) (ss : StatementsOf Name) → IsWithout x v → Behind ss → LetLines f x A B (more_statements c (assign x v) ss) (noted c (lines_valued x v ss))
  here c _ w (behind_plain d t ss a p h) = let_value c d v a t ss p w (other-notes d (c ++ d) t (tree_valued x v t) ss (lines_valued x v ss) h)
  here c _ w (behind_first d t ss n o h l) = subst (λ z. LetLines f x A B (more_statements c (assign x v) (more_statements d t ss)) (more_statements (c ++ d) (tree_valued x v t) z)) (sym (lines-stay x v ss l)) (let_first n c d (c ++ d) v ss w o h l)

  pub lines-inlined : (k : ℕ) (ss : StatementsOf Name) → nth (statement_trees ss) k ≡ Some (assign x v) → ((j : ℕ) (t : TreeOf Name) → j < k → nth (statement_trees ss) j ≡ Some t → IsWithout x t) → IsWithout x v → Behind (drop_statements (suc k) ss) →
      LetLines f x A B ss (inlined_from k (lines_valued x v ss))
  lines-inlined k no_statements e before w h = none-some e
  lines-inlined zero (more_statements c t ss) e before w h = subst (λ z. LetLines f x A B (more_statements c z ss) (noted c (lines_valued x v ss))) (sym (some-same e)) (here c ss w h)
  lines-inlined (suc k) (more_statements c t ss) e before w h =
      let first = before 0 t (omega arith) refl in
      subst (λ z. LetLines f x A B (more_statements c t ss) (more_statements c z (inlined_from k (lines_valued x v ss)))) (sym (tree-stays x v t first))
      (let_later c c t first (lines-inlined k ss e (λ j u l q. before (suc j) u (omega (arith, l)) q) w h))

-- the declarations of a scope in two parts
pub opened-apart : (ps us vs : List Name) (around : List Declared) → opened ps (us ++ vs) around ≡ opened ps us [] ++ opened [] vs around
opened-apart ps us vs around = ap (λ l. map as_argument ps ++ l) (by us) ∙ sym (append_assoc (map as_argument ps) (map as_temporary us ++ []) (map as_temporary vs ++ around))
  where
    by : (us : List Name) → map as_temporary (us ++ vs) ++ around ≡ (map as_temporary us ++ []) ++ (map as_temporary vs ++ around)
    by [] = refl
    by (u ∷ us) = ap (λ l. as_temporary u ∷ l) (by us)

-- a sequence that declares the name once, with scopes round it that do not
module _ (f : Name → MeaningOf Name) (x : Name) (proper : is_pseudo_variable x ≡ false) (ps : List Name) (b : SequenceOf Name) (outer : List (PlacedScope Name)) (parameters : list_any (text_eq x) ps ≡ false) (r : RoundOne (text_eq x) b.temporaries) (outer_free : local_by text_eq outer x ≡ NotLocal) where
  abbrev pub with_it : List Declared
  with_it = opened ps r.front [] ++ opened [] (x ∷ r.back) (declared_in outer)

  abbrev pub without_it : List Declared
  without_it = opened ps r.front [] ++ opened [] r.back (declared_in outer)

  item-so : x ≡ r.item
  item-so = text-same x r.item r.passes

  same-front : b.temporaries ≡ r.front ++ x ∷ r.back
  same-front = r.same ∙ ap (λ z. r.front ++ z ∷ r.back) (sym item-so)

  pub declared-so : opened ps b.temporaries (declared_in outer) ≡ with_it
  declared-so = ap (λ l. opened ps l (declared_in outer)) same-front ∙ opened-apart ps r.front (x ∷ r.back) (declared_in outer)

  fresh : kind_in without_it x ≡ None
  fresh =
      ap (λ E. kind_in E x) (sym (opened-apart ps r.front r.back (declared_in outer)))
      ∙ fresh-scope x 0 ps (r.front ++ r.back) no_statements outer parameters (list_any-append (text_eq x) r.front r.back ∙ (λ z. r.front_free z || r.back_free z)) (kind-scopes outer x ∙ ap kind_of outer_free)

  -- and the one without the statement that sets it
  pub let-inlined : (b' : SequenceOf Name) → b'.temporaries ≡ filter (λ n. not (text_eq x n)) b.temporaries → LetLines f x with_it without_it b.statements b'.statements → IsLet f (declared_in outer) ps b b'
  let-inlined b' t h = record {
    temporary = x;
    proper = proper;
    front = r.front;
    back = r.back;
    before = same-front;
    after = t ∙ r.rest;
    alone = fresh;
    lines = h;
  }

-- Statements that are put one behind the other are those of the list of a pattern.
use Rattle.std.proofs.Common.{◌≡◌, ℕ, ◌+◌, ◌<◌, ◌≤◌, List, [], ◌∷◌, ◌++◌, length, drop, get_or, Some, None, refl, sym, ap, subst, ◌∙◌, append_assoc}
use Rattle.std.specs.Prelude.{nat_eq, option_map}
use Rattle.std.specs.List.{concat}
use Rattle.std.specs.Option.{option_map_or}
use Rattle.std.proofs.lemmas.List.{append-nil, drop_more, drop_all}
use Rattle.rb_base.specs.Names.{name_at}
use Rattle.tree_model.specs.Tree.{Notes, TreeOf, StatementsOf, no_statements, more_statements, map_names, map_statements}
use Rattle.tree_model.specs.AllNames.{AllNames, StatementsNames}
use Rattle.st_tree.specs.View.{statements_of}
use Rattle.st_tree.specs.declared.tree.Statement.{Statement}
use Rattle.pattern_model.specs.declared.kinds.MetaKind.{MetaKind}
use Rattle.pattern_model.specs.declared.kinds.MetaKind.TheVariants.{StatementList}
use Rattle.pattern_model.specs.Patterns.{MetaOf, PatternOf, meta, StatementsLike, list_kind, list_meta}
use Rattle.pattern_model.specs.Bindings.{BindingOf, bound_of}
use Rattle.pattern_model.specs.Named.{map_meta, map_pattern, map_statements_like}
use Rattle.pattern_model.specs.Fill.{run_in, append_statements, EndedOf, noted, filled, statements_filled}
use Rattle.pattern_laws.proofs.PlacesMapped.{list_meta_mapped}
use Rattle.patterns.specs.Names.{PatternNames}
use Rattle.patterns.specs.View.{statements_from}
use Rattle.patterns.specs.declared.tree.PatternStatement.{PatternStatement}
use Rattle.filled_patterns.specs.Filling.{Later, AreKnown, State, put_one, put_all, with_notes, joined_up, Known, bound_texts, IsFilled, statement_filled, IsPut, AreMade, IsSequenceFilled}
use Rattle.filled_patterns.proofs.Growing.{still_known}
use Rattle.filled_patterns.proofs.Looked.{run_texts, run_known}

module _ {N : Type 0} where
  append_none : (ss : StatementsOf N) → append_statements ss no_statements ≡ ss
  append_none no_statements = refl
  append_none (more_statements c t ss) = ap (more_statements c t) (append_none ss)

  -- no comments, and comments twice
  noted_none : (ss : StatementsOf N) (e : Notes) → noted [] ss e ≡ (ss, e)
  noted_none no_statements e = refl
  noted_none (more_statements c t ss) e = refl

  noted_twice : (a c : Notes) (ss : StatementsOf N) (e : Notes) → (let r : EndedOf N = noted c ss e in noted a r.0 r.1) ≡ noted (a ++ c) ss e
  noted_twice a c no_statements e = ap (λ (d : Notes). (no_statements, d)) (sym (append_assoc a c e))
  noted_twice a c (more_statements d t ss) e = ap (λ (b : Notes). (more_statements b t ss, e)) (sym (append_assoc a c d))

module _ {N : Type 0} (f : ℕ → N) where
  one_more : (xs : List Statement) (x : Statement) (rest : StatementsOf N)
      → append_statements (map_statements f (statements_of (xs ++ x ∷ []))) rest ≡ append_statements (map_statements f (statements_of xs)) (more_statements x.comments (map_names f x.node) rest)
  one_more [] x rest = refl
  one_more (y ∷ xs) x rest = ap (more_statements y.comments (map_names f y.node)) (one_more xs x rest)

  abbrev front : State → EndedOf N → EndedOf N
  front s r = (append_statements (map_statements f (statements_of s.0)) r.0, r.1)

  joined_one : (s : State) (c : Notes) (t : TreeOf ℕ) (r : EndedOf N) → joined_up f (put_one s c t) r ≡ joined_up f s (more_statements c (map_names f t) r.0, r.1)
  joined_one s c t r =
      ap (front (put_one s c t)) (noted_none r.0 r.1)
      ∙ ap (λ (ss : StatementsOf N). (ss, r.1)) (one_more s.0 (record { comments = s.1 ++ c; node = t }) r.0)

  joined_all : (rs : List Statement) (s : State) (r : EndedOf N) → joined_up f (put_all s rs) r ≡ joined_up f s (append_statements (map_statements f (statements_of rs)) r.0, r.1)
  joined_all [] s r = refl
  joined_all (x ∷ rs) s r =
      joined_all rs (put_one s x.comments x.node) r ∙ joined_one s x.comments x.node (append_statements (map_statements f (statements_of rs)) r.0, r.1)

  joined_notes : (s : State) (c : Notes) (r : EndedOf N) → joined_up f (with_notes s c) r ≡ joined_up f s (noted c r.0 r.1)
  joined_notes s c r = ap (front s) (sym (noted_twice s.1 c r.0 r.1))

  joined_end : (s : State) (e : Notes) → joined_up f s (no_statements, e) ≡ (map_statements f (statements_of s.0), s.1 ++ e)
  joined_end s e = ap (λ (ss : StatementsOf N). (ss, s.1 ++ e)) (append_none (map_statements f (statements_of s.0)))

-- one more statement is put
pub all_last : (rs : List Statement) (x : Statement) (s : State) → put_all s (rs ++ x ∷ []) ≡ put_one (put_all s rs) x.comments x.node
all_last [] x s = refl
all_last (r ∷ rs) x s = all_last rs x (put_one s r.comments r.node)

module _ (P : ℕ → Type 0) where
  known_one : (xs : List Statement) (x : Statement) → StatementsNames P (statements_of xs) → AllNames P x.node → StatementsNames P (statements_of (xs ++ x ∷ []))
  known_one [] x h k = (k, tt)
  known_one (y ∷ xs) x h k = (h.0, known_one xs x h.1 k)

  known_all : (rs : List Statement) (s : State) → StatementsNames P (statements_of s.0) → StatementsNames P (statements_of rs) → StatementsNames P (statements_of (put_all s rs).0)
  known_all [] s h k = h
  known_all (x ∷ rs) s h k = known_all rs (put_one s x.comments x.node) (known_one s.0 (record { comments = s.1 ++ x.comments; node = x.node }) h k.0) k.1

  -- the metavariable of a list is known
  list_named : (k : MetaKind) (n m : MetaOf ℕ) → P n.name → Some m ≡ list_kind k n → P m.name
  list_named StatementList n m h e = let same : m ≡ n = cc in subst (λ (x : MetaOf ℕ). P x.name) (sym same) h
  list_named k n m h e = let bad : ⊥ = cc in absurd bad

  list_known : (p : PatternOf ℕ) (m : MetaOf ℕ) → PatternNames P p → Some m ≡ list_meta p → P m.name
  list_known (meta n) m h e = list_named n.kind n m h e
  list_known p m h e = let bad : ⊥ = cc in absurd bad

module _ {names final : List (List ℕ)} (l : Later names final) (bs : List (BindingOf ℕ)) (ks : AreKnown final bs) where
  -- a list of statements is put
  pub put_list : (c : Notes) (p : PatternOf ℕ) → PatternNames (Known names) p → (m : MetaOf ℕ) → Some m ≡ list_meta p → (s between after : State) → between ≡ with_notes s c
      → (rs : List Statement) → statements_of rs ≡ run_in (bound_of nat_eq bs m) → after ≡ put_all between rs → IsPut final bs c p s after
  put_list c p h m is s between after e rs run g =
      let f : ℕ → List ℕ = name_at final in
      let within : Known final m.name = still_known l.grows m.name (list_known (Known names) p m h is) in
      let texts : map_statements f (statements_of rs) ≡ run_in (bound_texts final bs (map_meta f m)) = ap (map_statements f) run ∙ run_texts final l.distinct bs ks m within in
      record {
        same = λ r.
            let there : statement_filled final bs p r ≡ append_statements (map_statements f (statements_of rs)) r.0 =
            ap (λ o. option_map_or (λ x. append_statements (run_in (bound_texts final bs x)) r.0) o (more_statements [] (filled (bound_texts final bs) concat (map_pattern f p)) r.0)) (list_meta_mapped f p ∙ ap (option_map (map_meta f)) (sym is))
            ∙ ap (λ (ss : StatementsOf (List ℕ)). append_statements ss r.0) (sym texts) in
            ap (λ x. joined_up f x r) (g ∙ ap (λ x. put_all x rs) e) ∙ joined_all f rs (with_notes s c) r
            ∙ joined_notes f s c (append_statements (map_statements f (statements_of rs)) r.0, r.1)
            ∙ ap (λ (ss : StatementsOf (List ℕ)). joined_up f s (noted c ss r.1)) (sym there);
        known = λ k.
            subst (λ (x : State). StatementsNames (Known final) (statements_of x.0)) (sym (g ∙ ap (λ x. put_all x rs) e))
            (known_all (Known final) rs (with_notes s c) k (subst (StatementsNames (Known final)) (sym run) (run_known final l.distinct bs ks m within)));
      }

module _ (final : List (List ℕ)) (bs : List (BindingOf ℕ)) where
  -- a statement is put
  pub put_single : (c : Notes) (p : PatternOf ℕ) → None ≡ list_meta p → (t : TreeOf ℕ) → IsFilled final bs p t → (s after : State) → after ≡ put_one s c t → IsPut final bs c p s after
  put_single c p is t a s after g =
      let f : ℕ → List ℕ = name_at final in
      record {
        same = λ r.
            let there : statement_filled final bs p r ≡ more_statements [] (map_names f t) r.0 =
            ap (λ o. option_map_or (λ x. append_statements (run_in (bound_texts final bs x)) r.0) o (more_statements [] (filled (bound_texts final bs) concat (map_pattern f p)) r.0)) (list_meta_mapped f p ∙ ap (option_map (map_meta f)) (sym is))
            ∙ ap (λ u. more_statements [] u r.0) (sym a.same) in
            ap (λ x. joined_up f x r) g ∙ joined_one f s c t r
            ∙ ap (λ (d : Notes). joined_up f s (more_statements d (map_names f t) r.0, r.1)) (sym (append-nil c))
            ∙ ap (λ (ss : StatementsOf (List ℕ)). joined_up f s (noted c ss r.1)) (sym there);
        known = λ k.
            subst (λ (x : State). StatementsNames (Known final) (statements_of x.0)) (sym g)
            (known_one (Known final) s.0 (record { comments = s.1 ++ c; node = t }) k a.known);
      }

  -- no statement is made; one more is; and all are
  pub made_none : (all : StatementsLike ℕ) (e : Notes) (s : State) → s ≡ ([], []) → AreMade final bs all all e s
  made_none all e s none = record {
    same =
        let r : EndedOf (List ℕ) = statements_filled (bound_texts final bs) concat (map_statements_like (name_at final) all) e in
        ap (λ x. joined_up (name_at final) x r) none ∙ noted_none r.0 r.1;
    known = subst (λ (x : State). StatementsNames (Known final) (statements_of x.0)) (sym none) tt;
  }

  pub made_more : (all : StatementsLike ℕ) (e : Notes) (ps : List PatternStatement) (i : ℕ) (p : PatternStatement) → i < length ps → p ≡ get_or ps i p → (s after : State)
      → AreMade final bs all (statements_from (drop i ps)) e s → IsPut final bs p.comments p.node s after → AreMade final bs all (statements_from (drop (i + 1) ps)) e after
  made_more all e ps i p h is s after a b =
      let f : ℕ → List ℕ = name_at final in
      let cut : drop i ps ≡ p ∷ drop (i + 1) ps = drop_more ps i p h ∙ ap (λ (y : PatternStatement). y ∷ drop (i + 1) ps) (sym is) in
      record {
        same =
            b.same (statements_filled (bound_texts final bs) concat (map_statements_like f (statements_from (drop (i + 1) ps))) e)
            ∙ ap (λ (qs : List PatternStatement). joined_up f s (statements_filled (bound_texts final bs) concat (map_statements_like f (statements_from qs)) e)) (sym cut)
            ∙ a.same;
        known = b.known a.known;
      }

  pub made_all : (all : StatementsLike ℕ) (e : Notes) (ps : List PatternStatement) (i : ℕ) → length ps ≤ i → (s after : State)
      → AreMade final bs all (statements_from (drop i ps)) e s → after ≡ with_notes s e → IsSequenceFilled final bs all e (statements_of after.0) after.1
  made_all all e ps i h s after a g =
      let f : ℕ → List ℕ = name_at final in
      record {
        same =
            ap (λ (x : State). (map_statements f (statements_of x.0), x.1)) g ∙ sym (joined_end f s e)
            ∙ ap (λ (qs : List PatternStatement). joined_up f s (statements_filled (bound_texts final bs) concat (map_statements_like f (statements_from qs)) e)) (sym (drop_all i ps h))
            ∙ a.same;
        known = subst (λ (x : State). StatementsNames (Known final) (statements_of x.0)) (sym g) a.known;
      }

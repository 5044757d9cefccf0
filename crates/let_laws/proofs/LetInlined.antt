-- What the conditions of `inlineTemp` say of the sequence that declares the temporary.
use Rattle.std.proofs.Common.{◌≡◌, ◌<◌, ℕ, zero, suc, ◌+◌, List, [], ◌∷◌, ◌++◌, length, slice_get, Option, Some, None, is_some, refl, sym, ap, ◌∙◌, subst, arith}
use Rattle.std.specs.Prelude.{Bool, true, false, ◌&&◌, ◌||◌, ◌==◌, nat_eq, nat_lt, codes}
use Rattle.std.specs.List.{list_any}
use Rattle.std.specs.Option.{option_map_or}
use Rattle.std.specs.Str.{bytes_eq}
use Rattle.std.proofs.lemmas.Bool.{false≢true, eqb-true, lt-ltb, ltb-true}
use Rattle.rb_base.specs.Names.{text_eq}
use Rattle.tree_model.specs.Tree.{TreeOf, var, assign, StatementsOf, no_statements, more_statements, SequenceOf, Notes}
use Rattle.tree_model.specs.Path.{count, nth, statement_trees, part_at, part_in}
use Rattle.scope_model.specs.FreeNames.{drop_statements, statements_at}
use Rattle.scope_model.specs.SpecialNames.{is_pseudo_variable}
use Rattle.scope_model.specs.Scope.{PlacedScope}
use Rattle.image_model.specs.Image.{EntryOf, ImageOf}
use Rattle.image_model.specs.Means.{MeaningOf}
use Rattle.run_model.specs.Values.{Name}
use Rattle.run_model.proofs.Finite.{by_cases, and-true_left, and-true_right}
use Rattle.resolved_model.specs.Environments.{Declared, opened, declared_in}
use Rattle.rename_laws.proofs.Unnamed.{denied}
use Rattle.reread_law.specs.WellFormed.{WellFormed, IsValue}
use Rattle.unfolded_calls.specs.SameContexts.{IsOutside}
use Rattle.unfolded_calls.proofs.Running.{none-some}
use Rattle.unfolded_places.specs.Standing.{outer_of}
use Rattle.unfolded_calls.specs.Unfolding.{StandIn}
use Rattle.unfolded_places.specs.Inlining.{PlainActual}
use Rattle.command_model.specs.Asked.{text_asked}
use Rattle.command_model.specs.Parts.{Expression}
use Rattle.command_model.specs.Places.{innermost, temporary_scope}
use Rattle.command_model.specs.Plain.{is_plain}
use Rattle.command_model.specs.PartConditions.{is_first_evaluated}
use Rattle.command_model.specs.Temporaries.{LetOf, only, reads_of}
use Rattle.command_model.specs.LetConditions.{is_let_form, is_value_kept, is_value_no_control}
use Rattle.code_command_laws.specs.Before.{is_plain_before}
use Rattle.code_command_laws.specs.Round.{IsOpen}
use Rattle.code_command_laws.proofs.PartRound.{step-behind}
use Rattle.moved_code_laws.proofs.PlainThere.{IsPlain, tree-plain}
use Rattle.let_laws.specs.ReadsFirst.{IsWithout}
use Rattle.let_laws.proofs.Declaring.{Declares, base}
use Rattle.let_laws.proofs.LetReads.{local, listed-none, the-read, loose-statement, statement-without, value-without}
use Rattle.let_laws.proofs.LinesInlined.{nth-behind, all-without, each-becomes, Behind, behind_plain, behind_first, with_it, without_it, declared-so}
use Rattle.let_laws.proofs.LetPlain.{plain-less, plain-without, statement-becomes}
use Rattle.let_laws.proofs.LetNext.{read-open, other-unread, reads-next}

-- statements behind some, where there are more
record More (ss : StatementsOf Name) : Type 0 where
  pub notes : Notes
  pub first : TreeOf Name
  pub rest : StatementsOf Name
  pub same : ss ≡ more_statements notes first rest

more-there : (k : ℕ) (ss : StatementsOf Name) → k < count (statement_trees ss) → More (drop_statements k ss)
more-there k no_statements l = absurd (omega (arith, l))
more-there zero (more_statements c t ss) l = record { notes = c; first = t; rest = ss; same = refl }
more-there (suc k) (more_statements c t ss) l = more-there k ss (omega (arith, l))

more-nth : (k : ℕ) (ss : StatementsOf Name) (t : TreeOf Name) → nth (statement_trees ss) k ≡ Some t → (c : Notes) × (rest : StatementsOf Name) × (drop_statements k ss ≡ more_statements c t rest)
more-nth k no_statements t e = none-some e
more-nth zero (more_statements c u ss) t e = (c, ss, ap (λ z. more_statements c z ss) (same e))
  where
    same : Some u ≡ Some t → u ≡ t
    same q = cc
more-nth (suc k) (more_statements c u ss) t e = more-nth k ss t e

-- one of two
either : {P : Type 0} (b c : Bool) → (b || c) ≡ true → (b ≡ true → P) → (c ≡ true → P) → P
either true c e p q = p refl
either false c e p q = q e

module _ (i : ImageOf Name) (m : EntryOf Name) (outside : (n : Name) → IsOutside (outer_of i m n)) (x : Name) (proper : is_pseudo_variable x ≡ false) (path : List ℕ) (ps : List Name) (b : SequenceOf Name) (outer : List (PlacedScope Name)) (d : Declares m.tree x path ps b outer)
    (number : ℕ) (v : TreeOf Name) (sets : nth (statement_trees b.statements) number ≡ Some (assign x v))
    (alone : (r : List ℕ) (n : Name) (t : TreeOf Name) → part_in m.tree.body r ≡ Some (assign n t) → text_eq x n ≡ true → is_some (temporary_scope (local m.tree x r n)) ≡ true → r ≡ path ++ number ∷ [])
    (formed : WellFormed v) (value : IsValue v) where
  -- the assignment
  abbrev pub e : LetOf Name
  e = record { sequence = path; number = number; value = v }

  abbrev f : Name → MeaningOf Name
  f = outer_of i m

  -- what is declared there with the temporary and without it
  abbrev pub A : List Declared
  A = with_it f x proper ps b outer d.parameters d.temporaries d.outer_free

  abbrev pub B : List Declared
  B = without_it f x proper ps b outer d.parameters d.temporaries d.outer_free

  round-so : declared_in (base m.tree x path ps b outer d) ≡ A
  round-so = declared-so f x proper ps b outer d.parameters d.temporaries d.outer_free

  -- what is asked of the statements
  pub record Inlinable : Type 0 where
    pub before : (j : ℕ) (t : TreeOf Name) → j < number → nth (statement_trees b.statements) j ≡ Some t → IsWithout x t
    pub without : IsWithout x v
    pub behind : Behind f x A B v (drop_statements (suc number) b.statements)

  not-after : (n j : ℕ) → suc n + j ≡ n → ⊥
  not-after n j q = omega (arith, q)

  lower : (j n : ℕ) → j < n → j ≡ n → ⊥
  lower j n l q = omega (arith, l, q)

  -- the value is plain
  module _ (plain : is_plain text_asked i m (path ++ number ∷ []) v ≡ true) (kept : is_value_kept text_asked i m x e ≡ true) where
    without-plain : IsWithout x v
    without-plain = plain-without i m outside x proper path ps b outer d number v sets v plain

    its : IsPlain i m (path ++ number ∷ []) v
    its = tree-plain i m (path ++ number ∷ []) v plain formed

    less : (c : StandIn) × PlainActual f B v c
    less = plain-less (opened ps d.temporaries.front []) (opened [] d.temporaries.back (declared_in outer)) x f v its.stand_in (subst (λ E. PlainActual f E v its.stand_in) (ap declared_in (d.round number (assign x v) sets) ∙ round-so) its.plain) without-plain

    behind-plain : (k : ℕ) → k ≡ suc number → k < count (statement_trees b.statements) → Behind f x A B v (drop_statements k b.statements)
    behind-plain k s l =
        let more = more-there k b.statements l in
        subst (Behind f x A B v) (sym more.same)
        (behind_plain more.notes more.first more.rest less.0 less.1
        (each-becomes f x A B v (more_statements more.notes more.first more.rest)
        (λ j t q. statement-becomes i m outside x proper path ps b outer d number v sets kept its.unblocked A B (k + j) t (sym (nth-behind b.statements k j) ∙ ap (λ ss. nth (statement_trees ss) j) more.same ∙ q)
        (loose-statement m.tree x proper path ps b outer d number v alone (k + j) t (sym (nth-behind b.statements k j) ∙ ap (λ ss. nth (statement_trees ss) j) more.same ∙ q) (λ z. not-after number j (ap (λ n. n + j) (sym s) ∙ z))))))

    plain-inlined : nat_lt (suc number) (count (statement_trees b.statements)) ≡ true → list_any (λ r. option_map_or (λ k. nat_lt k number) (slice_get r (length path)) false) (reads_of text_asked m.tree x) ≡ false → Inlinable
    plain-inlined next none = record {
      before = λ j t l at. statement-without m.tree x proper path ps b outer d number v alone j t at (lower j number l) (λ q n there. by_cases (text_eq x n) (λ told. absurd (earlier j t l at q n there told)) (λ g. g));
      without = without-plain;
      behind = behind-plain (suc number) refl (ltb-true (suc number) (count (statement_trees b.statements)) next);
    }
      where
        earlier : (j : ℕ) (t : TreeOf Name) → j < number → nth (statement_trees b.statements) j ≡ Some t → (q : List ℕ) (n : Name) → part_at t q ≡ Some (var n) → text_eq x n ≡ true → ⊥
        earlier j t l at q n there told =
            false≢true (sym (listed-none m.tree x proper path ps b outer d j t at q n there told (λ r. option_map_or (λ k. nat_lt k number) (slice_get r (length path)) false) none)
            ∙ ap (λ (o : Option ℕ). option_map_or (λ k. nat_lt k number) o false) (step-behind path j q) ∙ lt-ltb j number l)

  -- there is one read, in the next statement
  module _ (first : (k : ℕ) (t : TreeOf Name) (ks : List ℕ) (part : TreeOf Name) → nth (statement_trees b.statements) k ≡ Some t → IsOpen part t ks → is_first_evaluated text_asked i m (Expression (path ++ k ∷ ks)) ≡ true → is_plain_before text_asked i m (path ++ k ∷ ks) t ks ≡ true) (control : is_value_no_control text_asked i m x e ≡ true) where
    not-super : (u : TreeOf Name) → IsValue u → u ≡ var (codes "super") → ⊥
    not-super u h s = no (subst IsValue s h)
      where
        no : bytes_eq (codes "super") (codes "super") ≡ false → ⊥
        no q = false≢true (sym q)

    module _ (j : ℕ) (t : TreeOf Name) (at : nth (statement_trees b.statements) j ≡ Some t) (ks : List ℕ) (name : Name) (there : part_at t ks ≡ Some (var name)) (told : text_eq x name ≡ true) (single : only (reads_of text_asked m.tree x) ≡ Some (path ++ j ∷ ks)) (next : j ≡ suc number) where
      before-next : number ≡ j → ⊥
      before-next q = omega (arith, q, next)

      -- no other statement reads it
      unread : (k : ℕ) (s : TreeOf Name) → nth (statement_trees b.statements) k ≡ Some s → (k ≡ j → ⊥) → (q : List ℕ) (y : Name) → part_at s q ≡ Some (var y) → text_eq x y ≡ false
      unread k s g n q y p = other-unread i m outside x proper path ps b outer d j t at ks name there told single k s g q y p (λ both. n both.0)

      statement-free : (k : ℕ) (s : TreeOf Name) → nth (statement_trees b.statements) k ≡ Some s → (k ≡ number → ⊥) → (k ≡ j → ⊥) → IsWithout x s
      statement-free k s g p n = statement-without m.tree x proper path ps b outer d number v alone k s g p (unread k s g n)

      value-free : IsWithout x v
      value-free = value-without m.tree x proper path ps b outer d number v alone number (assign x v) sets x v refl (λ q y p. unread number (assign x v) sets before-next (0 ∷ q) y p)

      behind-next : (c : Notes) (rest : StatementsOf Name) → drop_statements j b.statements ≡ more_statements c t rest → IsOpen (var name) t ks → is_first_evaluated text_asked i m (Expression (path ++ j ∷ ks)) ≡ true → Behind f x A B v (drop_statements (suc number) b.statements)
      behind-next c rest same p h =
          subst (λ k. Behind f x A B v (drop_statements k b.statements)) next
          (subst (Behind f x A B v) (sym same)
          (behind_first c t rest (length ks) (not-super v value)
          (reads-next i m outside x proper path ps b outer d j t at ks name there told single v value-free _ _ round-so p
          (loose-statement m.tree x proper path ps b outer d number v alone j t at (λ z. before-next (sym z)))
          (denied _ control) (first j t ks (var name) at p h))
          (all-without x rest (λ k s g. statement-free (j + suc k) s (sym (nth-behind b.statements j (suc k)) ∙ ap (λ ss. nth (statement_trees ss) (suc k)) same ∙ g) (not-number k) (not-this k)))))
        where
          not-number : (k : ℕ) → j + suc k ≡ number → ⊥
          not-number k z = omega (arith, z, next)

          not-this : (k : ℕ) → j + suc k ≡ j → ⊥
          not-this k z = omega (arith, z)

      next-inlined : (innermost m.tree (path ++ j ∷ ks) == length path) ≡ true → is_first_evaluated text_asked i m (Expression (path ++ j ∷ ks)) ≡ true → Inlinable
      next-inlined n h =
          let more = more-nth j b.statements t at in
          record {
            before = λ k s l g. statement-free k s g (lower k number l) (earlier k l);
            without = value-free;
            behind = behind-next more.0 more.1 more.2 (read-open i m outside x proper path ps b outer d j t at ks name there n) h;
          }
        where
          earlier : (k : ℕ) → k < number → k ≡ j → ⊥
          earlier k l z = omega (arith, l, z, next)

    -- by the only read
    one-inlined : (o : Option (List ℕ)) → only (reads_of text_asked m.tree x) ≡ o → option_map_or (λ r. (innermost m.tree r == length path && option_map_or (nat_eq (suc number)) (slice_get r (length path)) false) && is_first_evaluated text_asked i m (Expression r)) o false ≡ true → Inlinable
    one-inlined None q h = absurd (false≢true h)
    one-inlined (Some r) q h =
        let its = the-read m.tree x proper path ps b outer d r q in
        let k = its.inside in
        let all = subst (λ r. ((innermost m.tree r == length path && option_map_or (nat_eq (suc number)) (slice_get r (length path)) false) && is_first_evaluated text_asked i m (Expression r)) ≡ true) k.same h in
        let places = and-true_left (innermost m.tree (path ++ k.number ∷ k.rest) == length path && option_map_or (nat_eq (suc number)) (slice_get (path ++ k.number ∷ k.rest) (length path)) false) _ all in
        next-inlined k.number k.statement k.at k.rest its.name k.there its.told (q ∙ ap Some k.same)
        (sym (eqb-true (suc number) k.number (ap (λ (o : Option ℕ). option_map_or (nat_eq (suc number)) o false) (sym (step-behind path k.number k.rest)) ∙ and-true_right (innermost m.tree (path ++ k.number ∷ k.rest) == length path) _ places)))
        (and-true_left (innermost m.tree (path ++ k.number ∷ k.rest) == length path) _ places) (and-true_right (innermost m.tree (path ++ k.number ∷ k.rest) == length path && option_map_or (nat_eq (suc number)) (slice_get (path ++ k.number ∷ k.rest) (length path)) false) _ all)

    -- so the conditions say
    pub inlinable : is_let_form text_asked i m x e ≡ true → is_value_kept text_asked i m x e ≡ true → Inlinable
    inlinable form kept =
        let next = subst (λ ss. nat_lt (suc number) (count (statement_trees ss)) ≡ true) d.statements (and-true_left (nat_lt (suc number) (count (statement_trees (statements_at m.tree.body path)))) _ form) in
        either _ _ (and-true_right (nat_lt (suc number) (count (statement_trees (statements_at m.tree.body path)))) _ form)
        (λ p. plain-inlined (and-true_left (is_plain text_asked i m (path ++ number ∷ []) v) _ p) kept next (denied _ (and-true_right (is_plain text_asked i m (path ++ number ∷ []) v) _ p)))
        (λ o. one-inlined (only (reads_of text_asked m.tree x)) refl o)

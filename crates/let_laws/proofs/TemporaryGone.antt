-- A method whose temporary `inlineTemp` may take away sets it once, and the method after is the one without it.
use Rattle.std.proofs.Common.{◌≡◌, ℕ, List, [], ◌∷◌, ◌++◌, length, Option, Some, None, is_some, refl, sym, ap, ◌∙◌, subst}
use Rattle.std.specs.Prelude.{true, false, if◌then◌else◌, option_and_then}
use Rattle.std.specs.List.{list_any}
use Rattle.rb_base.specs.Names.{text_eq}
use Rattle.tree_model.specs.Tree.{TreeOf, assign, block, SequenceOf}
use Rattle.tree_model.specs.Path.{nth, statement_trees, part_at, part_in, method_replaced}
use Rattle.scope_model.specs.declared.local.Local.{Local}
use Rattle.scope_model.specs.declared.local.Local.TheVariants.{NotLocal}
use Rattle.scope_model.specs.SpecialNames.{is_pseudo_variable}
use Rattle.scope_model.specs.Scope.{PlacedScope, method_scope, scopes_round, local_by, is_among}
use Rattle.image_model.specs.Image.{EntryOf, ImageOf}
use Rattle.run_model.specs.Values.{Name}
use Rattle.run_model.proofs.Finite.{by_cases}
use Rattle.run_model.proofs.RenamingLemmas.{text-same}
use Rattle.resolved_model.specs.Environments.{declared_in}
use Rattle.reread_law.specs.WellFormed.{WellFormed}
use Rattle.reread_law.specs.WholeTrees.{WellFormedMethod}
use Rattle.file_out_laws.proofs.AritiesSpelled.{node-formed}
use Rattle.unfolded_calls.specs.SameContexts.{IsOutside}
use Rattle.unfolded_places.specs.Standing.{outer_of}
use Rattle.command_model.specs.Asked.{text_asked}
use Rattle.command_model.specs.Parts.{Expression}
use Rattle.command_model.specs.Places.{temporary_scope}
use Rattle.command_model.specs.PartConditions.{is_first_evaluated}
use Rattle.command_model.specs.Temporaries.{LetOf, let_of, temporary_inlined}
use Rattle.command_model.specs.LetConditions.{is_let_form, is_value_kept, is_value_no_control}
use Rattle.code_command_laws.specs.Before.{is_plain_before}
use Rattle.code_command_laws.specs.Round.{IsOpen, InBlock, this_block, block_below}
use Rattle.code_command_laws.proofs.PartRound.{block_with, block-there, statement-there}
use Rattle.code_command_laws.proofs.FirstAt.{body-first, block-first}
use Rattle.code_command_laws.proofs.OneNode.{LetStands}
use Rattle.code_command_laws.proofs.OneDeclaration.{declared-by_body, declared-by_block}
use Rattle.code_command_laws.proofs.LetRound.{LetWhere, in_the_body, in_a_block, let-where}
use Rattle.moved_code_laws.proofs.LocalsThere.{among-scopes}
use Rattle.let_laws.specs.Lets.{IsLet, LetIn, let_in_body, let_in_block}
use Rattle.let_laws.proofs.Declaring.{Declares, declares-body, declares-block}
use Rattle.let_laws.proofs.LetReads.{local}
use Rattle.let_laws.proofs.LetInlined.{Inlinable, inlinable}
use Rattle.let_laws.proofs.InlinedMethod.{after, is-let, inlined-there}

-- another statement of the innermost block
other-statement : {p q : TreeOf Name} {ps : List Name} {b : SequenceOf Name} {k l : ℕ} {s u : TreeOf Name} {ks ls : List ℕ} {t : TreeOf Name} {js : List ℕ} → InBlock p ps b k s ks t js → nth (statement_trees b.statements) l ≡ Some u → IsOpen q u ls → InBlock q ps b l u ls t js
other-statement (this_block e p) at o = this_block at o
other-statement (block_below e p) at o = block_below e (other-statement p at o)

module _ (i : ImageOf Name) (m : EntryOf Name) (outside : (n : Name) → IsOutside (outer_of i m n)) (x : Name) (formed : WellFormedMethod false m.tree) (e : LetOf Name) (h : LetStands text_asked m.tree x e) (form : is_let_form text_asked i m x e ≡ true) (kept : is_value_kept text_asked i m x e ≡ true) (control : is_value_no_control text_asked i m x e ≡ true) where
  name-so : x ≡ h.name
  name-so = text-same x h.name h.told

  -- a pseudo-variable is no temporary
  proper : is_pseudo_variable x ≡ false
  proper = by_cases (is_pseudo_variable x) (λ t. absurd (none (local_by text_eq (scopes_round (method_scope m.tree) (e.sequence ++ e.number ∷ [])) h.name) (ap is_pseudo_variable (sym name-so) ∙ t) h.scope)) (λ f. f)
    where
      no : None ≡ Some (length e.sequence) → ⊥
      no q = cc

      none : (l : Local) → is_pseudo_variable h.name ≡ true → temporary_scope (if is_pseudo_variable h.name then NotLocal else l) ≡ Some (length e.sequence) → ⊥
      none l t s = no (sym (ap (λ c. temporary_scope (if c then NotLocal else l)) t) ∙ s)

  its_formed : WellFormed (assign h.name e.value)
  its_formed = node-formed m.tree.body formed.body.statements (e.sequence ++ e.number ∷ []) (assign h.name e.value) h.there

  -- what is left is that of a path in place of the assignment's
  module _ (path : List ℕ) (same : e.sequence ≡ path) where
    abbrev there : LetOf Name
    there = record { sequence = path; number = e.number; value = e.value }

    same-let : e ≡ there
    same-let = λ z. record { sequence = same z; number = e.number; value = e.value }

    alone : (r : List ℕ) (n : Name) (t : TreeOf Name) → part_in m.tree.body r ≡ Some (assign n t) → text_eq x n ≡ true → is_some (temporary_scope (local m.tree x r n)) ≡ true → r ≡ path ++ e.number ∷ []
    alone r n t at told l = h.alone r n t at told l ∙ ap (λ w. w ++ e.number ∷ []) same

    module _ (ps : List Name) (b : SequenceOf Name) (outer : List (PlacedScope Name)) (d : Declares m.tree x path ps b outer) (sets : nth (statement_trees b.statements) e.number ≡ Some (assign x e.value)) where
      abbrev First : Type 0
      First = (k : ℕ) (t : TreeOf Name) (ks : List ℕ) (part : TreeOf Name) → nth (statement_trees b.statements) k ≡ Some t → IsOpen part t ks → is_first_evaluated text_asked i m (Expression (path ++ k ∷ ks)) ≡ true → is_plain_before text_asked i m (path ++ k ∷ ks) t ks ≡ true

      all-so : First → Inlinable i m outside x proper path ps b outer d e.number e.value sets alone its_formed.1 its_formed.2
      all-so first =
          inlinable i m outside x proper path ps b outer d e.number e.value sets alone its_formed.1 its_formed.2 first (subst (λ z. is_value_no_control text_asked i m x z ≡ true) same-let control)
          (subst (λ z. is_let_form text_asked i m x z ≡ true) same-let form) (subst (λ z. is_value_kept text_asked i m x z ≡ true) same-let kept)

      abbrev b' : Inlinable i m outside x proper path ps b outer d e.number e.value sets alone its_formed.1 its_formed.2 → SequenceOf Name
      b' = after i m outside x proper path ps b outer d e.number e.value sets alone its_formed.1 its_formed.2

      let-so : (first : First) → IsLet (outer_of i m) (declared_in outer) ps b (b' (all-so first))
      let-so first = is-let i m outside x proper path ps b outer d e.number e.value sets alone its_formed.1 its_formed.2 (all-so first)

  among-so : (xs : List Name) → is_among text_eq xs h.name ≡ true → list_any (text_eq x) xs ≡ true
  among-so xs t = ap (λ n. list_any (text_eq n) xs) name-so ∙ t

  sets-so : (o : Option (TreeOf Name)) → o ≡ Some (assign h.name e.value) → o ≡ Some (assign x e.value)
  sets-so o q = q ∙ ap (λ n. Some (assign n e.value)) (sym name-so)

  -- the sequence is the body
  gone-body : e.sequence ≡ [] → nth (statement_trees m.tree.body.statements) e.number ≡ Some (assign h.name e.value) → is_among text_eq m.tree.body.temporaries h.name ≡ true → LetIn (outer_of i m) m.tree (temporary_inlined text_asked m.tree x e)
  gone-body s n t =
      let d = declares-body m.tree x h.once (declared-by_body text_asked m.tree x h.once (among-so m.tree.body.temporaries t)) in
      let sets = sets-so (nth (statement_trees m.tree.body.statements) e.number) n in
      let first : First [] s m.tree.arguments m.tree.body [] d sets = λ k t ks part at p. body-first text_asked i m x part k t ks at p in
      subst (λ z. LetIn (outer_of i m) m.tree (temporary_inlined text_asked m.tree x z)) (sym (same-let [] s))
      (let_in_body (b' [] s m.tree.arguments m.tree.body [] d sets (all-so [] s m.tree.arguments m.tree.body [] d sets first)) (let-so [] s m.tree.arguments m.tree.body [] d sets first))

  -- or that of a block
  module _ (j : ℕ) (js : List ℕ) (c : TreeOf Name) (ps : List Name) (b : SequenceOf Name) (s : e.sequence ≡ j ∷ js) (n : nth (statement_trees m.tree.body.statements) j ≡ Some c) (it : InBlock (assign h.name e.value) ps b e.number (assign h.name e.value) [] c js)
      (old : part_in m.tree.body (j ∷ js) ≡ Some (block_with ps b)) (d : Declares m.tree x (j ∷ js) ps b (scopes_round (method_scope m.tree) (j ∷ js))) (sets : nth (statement_trees b.statements) e.number ≡ Some (assign x e.value)) where
    abbrev new : Inlinable i m outside x proper (j ∷ js) ps b (scopes_round (method_scope m.tree) (j ∷ js)) d e.number e.value sets (alone (j ∷ js) s) its_formed.1 its_formed.2 → SequenceOf Name
    new all = b' (j ∷ js) s ps b (scopes_round (method_scope m.tree) (j ∷ js)) d sets all

    gone-there : (all : Inlinable i m outside x proper (j ∷ js) ps b (scopes_round (method_scope m.tree) (j ∷ js)) d e.number e.value sets (alone (j ∷ js) s) its_formed.1 its_formed.2) → IsLet (outer_of i m) (declared_in (scopes_round (method_scope m.tree) (j ∷ js))) ps b (new all) →
        LetIn (outer_of i m) m.tree (temporary_inlined text_asked m.tree x e)
    gone-there all l =
        subst (λ z. LetIn (outer_of i m) m.tree (temporary_inlined text_asked m.tree x z)) (sym {b = there (j ∷ js) s} (same-let (j ∷ js) s))
        (subst (LetIn (outer_of i m) m.tree) (sym {b = method_replaced m.tree (j ∷ js) (block ps (new all).temporaries (new all).statements (new all).tail)} (inlined-there m.tree x (there (j ∷ js) s) j js ps b (scopes_round (method_scope m.tree) (j ∷ js)) refl d c (assign h.name e.value) n it old (new all) refl))
        (let_in_block (j ∷ js) ps b (new all) old (subst (λ E. IsLet (outer_of i m) E ps b (new all)) (sym (among-scopes m.tree (j ∷ js) (block_with ps b) old)) l)))

  gone-block : (j : ℕ) (js : List ℕ) (c : TreeOf Name) (ps : List Name) (b : SequenceOf Name) → e.sequence ≡ j ∷ js → nth (statement_trees m.tree.body.statements) j ≡ Some c → InBlock (assign h.name e.value) ps b e.number (assign h.name e.value) [] c js → is_among text_eq b.temporaries h.name ≡ true →
      LetIn (outer_of i m) m.tree (temporary_inlined text_asked m.tree x e)
  gone-block j js c ps b s n it t =
      let old : part_in m.tree.body (j ∷ js) ≡ Some (block_with ps b) = ap (option_and_then (λ z. part_at z js)) n ∙ block-there it in
      let outer = scopes_round (method_scope m.tree) (j ∷ js) in
      let d : Declares m.tree x (j ∷ js) ps b outer = declares-block m.tree x h.once j js ps b old (declared-by_block text_asked m.tree x h.once (j ∷ js) ps b old (among-so b.temporaries t)) in
      let sets = sets-so (nth (statement_trees b.statements) e.number) (statement-there it).0 in
      let first : First (j ∷ js) s ps b outer d sets = λ k t ks part at p. block-first text_asked i m x part j c n ps b k t ks js (other-statement it at p) in
      gone-there j js c ps b s n it old d sets (all-so (j ∷ js) s ps b outer d sets first) (let-so (j ∷ js) s ps b outer d sets first)

  gone-where : LetWhere text_asked m.tree x e h.name → LetIn (outer_of i m) m.tree (temporary_inlined text_asked m.tree x e)
  gone-where (in_the_body s n t p) = gone-body s n t
  gone-where (in_a_block j js c ps b s n it t p) = gone-block j js c ps b s n it t

pub temporary-gone : (i : ImageOf Name) (m : EntryOf Name) → ((n : Name) → IsOutside (outer_of i m n)) → (x : Name) → WellFormedMethod false m.tree → (e : LetOf Name) → let_of text_asked m.tree x ≡ Some e → is_let_form text_asked i m x e ≡ true → is_value_kept text_asked i m x e ≡ true →
    is_value_no_control text_asked i m x e ≡ true → LetIn (outer_of i m) m.tree (temporary_inlined text_asked m.tree x e)
temporary-gone i m outside x formed e q form kept control = let w = let-where text_asked m.tree x e q in gone-where i m outside x formed e w.0 form kept control w.1

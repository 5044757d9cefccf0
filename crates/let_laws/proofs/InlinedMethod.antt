-- The method in which `inlineTemp` puts the value of a temporary where it was read is the one without the temporary.
use Rattle.std.proofs.Common.{◌≡◌, ℕ, List, [], ◌∷◌, ◌++◌, filter, Option, Some, None, is_some, refl, sym, ap, ◌∙◌, subst}
use Rattle.std.specs.Prelude.{Bool, true, false, not, if◌then◌else◌, option_map, option_and_then, unwrap_or}
use Rattle.rb_base.specs.Names.{text_eq}
use Rattle.tree_model.specs.Tree.{TreeOf, var, literal, send, cascade, assign, block, brace, return, StatementsOf, no_statements, SequenceOf, MethodOf}
use Rattle.tree_model.specs.Path.{nth, statement_trees, part_at, part_among, part_in, statements_replaced, method_replaced}
use Rattle.tree_model.proofs.Parts.{part_in-replaced_in, replaced_in-replaced_in, replaced-block}
use Rattle.scope_model.specs.SpecialNames.{is_pseudo_variable}
use Rattle.scope_model.specs.Scope.{PlacedScope}
use Rattle.image_model.specs.Image.{EntryOf, ImageOf}
use Rattle.run_model.specs.Values.{Name}
use Rattle.run_model.proofs.Finite.{by_cases}
use Rattle.run_model.proofs.RenamingLemmas.{text-same}
use Rattle.resolved_model.specs.Environments.{Declared, declared_in}
use Rattle.mapped_model.proofs.NodesBelow.{Among, among-first}
use Rattle.reread_law.specs.WellFormed.{WellFormed, IsValue}
use Rattle.unfolded_calls.specs.SameContexts.{IsOutside}
use Rattle.unfolded_calls.proofs.Running.{none-some}
use Rattle.unfolded_places.specs.Standing.{outer_of}
use Rattle.command_model.specs.Asked.{text_asked}
use Rattle.command_model.specs.Places.{temporary_scope}
use Rattle.command_model.specs.Sequences.{put_for, block_changed, sequence_changed}
use Rattle.command_model.specs.Temporaries.{LetOf, temporary_inlined}
use Rattle.command_model.specs.Walk.{Making, rebuilt_statements, rebuilt_method}
use Rattle.code_command_laws.specs.Round.{InBlock, block_below}
use Rattle.code_command_laws.proofs.PartRound.{block_with}
use Rattle.code_command_laws.proofs.RebuiltBlock.{ChangesNames, rebuilt-block}
use Rattle.let_laws.specs.Lets.{LetLines, IsLet}
use Rattle.let_laws.proofs.Valued.{name_valued, Values, lines-rebuilt}
use Rattle.let_laws.proofs.Declaring.{Declares}
use Rattle.let_laws.proofs.LetReads.{local, scope_read, scope-there}
use Rattle.let_laws.proofs.LinesInlined.{lines-inlined, with_it, without_it, let-inlined}
use Rattle.let_laws.proofs.LetInlined.{Inlinable}

module _ (m : MethodOf Name) (x : Name) (e : LetOf Name) where
  -- what becomes of a node where it stands
  abbrev pub made : Making Name
  made path (var n) = if is_some (scope_read m x (path, var n)) then e.value else var n
  made path t = t

  -- the sequence without the temporary and what sets it
  abbrev pub without : SequenceOf Name → SequenceOf Name
  without b = let c : SequenceOf Name = put_for e.number no_statements b in record c { temporaries = filter (λ n. not (text_eq x n)) c.temporaries }

  pub made-names : ChangesNames made
  made-names path (var n) h = absurd h
  made-names path (literal l) h = refl
  made-names path (send r s args) h = refl
  made-names path (cascade r ms) h = refl
  made-names path (assign n t) h = refl
  made-names path (block ps ts ss c) h = refl
  made-names path (brace ts) h = refl
  made-names path (return t) h = refl

module _ (i : ImageOf Name) (m : EntryOf Name) (outside : (n : Name) → IsOutside (outer_of i m n)) (x : Name) (proper : is_pseudo_variable x ≡ false) (path : List ℕ) (ps : List Name) (b : SequenceOf Name) (outer : List (PlacedScope Name)) (d : Declares m.tree x path ps b outer)
    (number : ℕ) (v : TreeOf Name) (sets : nth (statement_trees b.statements) number ≡ Some (assign x v))
    (alone : (r : List ℕ) (n : Name) (t : TreeOf Name) → part_in m.tree.body r ≡ Some (assign n t) → text_eq x n ≡ true → is_some (temporary_scope (local m.tree x r n)) ≡ true → r ≡ path ++ number ∷ [])
    (formed : WellFormed v) (value : IsValue v) (h : Inlinable i m outside x proper path ps b outer d number v sets alone formed value) where
  abbrev e : LetOf Name
  e = record { sequence = path; number = number; value = v }

  -- what becomes of a node of the sequence
  abbrev made_there : Making Name
  made_there q u = made m.tree x e (path ++ q) u

  made-there_names : ChangesNames made_there
  made-there_names q u n = made-names m.tree x e (path ++ q) u n

  names-valued : Among (Values x v made_there) (statement_trees b.statements) 0
  names-valued = among-first (Values x v made_there) (statement_trees b.statements) by
    where
      by-name : (j : ℕ) (t : TreeOf Name) → nth (statement_trees b.statements) j ≡ Some t → (q : List ℕ) (n : Name) → part_at t q ≡ Some (var n) → made_there (j ∷ q) (var n) ≡ name_valued x v n
      by-name j t at q n there =
          by_cases (text_eq x n)
          (λ told.
          ap (λ c. if is_some (if c then temporary_scope (local m.tree x (path ++ j ∷ q) n) else None) then v else var n) told
          ∙ ap (λ (o : Option ℕ). if is_some o then v else var n) (scope-there m.tree x proper path ps b outer d j t at q (var n) there n told) ∙ sym (ap (λ c. if c then v else var n) told))
          (λ other. ap (λ c. if is_some (if c then temporary_scope (local m.tree x (path ++ j ∷ q) n) else None) then v else var n) other ∙ sym (ap (λ c. if c then v else var n) other))

      by : (way : List ℕ) (u : TreeOf Name) → part_among (statement_trees b.statements) way ≡ Some u → Values x v made_there way u
      by [] u p n s = none-some p
      by (j ∷ q) u p n s = at (nth (statement_trees b.statements) j) refl p
        where
          at : (o : Option (TreeOf Name)) → nth (statement_trees b.statements) j ≡ o → option_and_then (λ c. part_at c q) o ≡ Some u → made_there (j ∷ q) (var n) ≡ name_valued x v n
          at None g p = none-some p
          at (Some t) g p = by-name j t g q n (p ∙ ap Some s)

  -- the sequence after
  abbrev pub after : SequenceOf Name
  after = without m.tree x e (record b { statements = rebuilt_statements made_there 0 b.statements })

  pub is-let : IsLet (outer_of i m) (declared_in outer) ps b after
  is-let =
      let-inlined (outer_of i m) x proper ps b outer d.parameters d.temporaries d.outer_free after refl
      (subst (λ ss. LetLines (outer_of i m) x A B b.statements (without m.tree x e (record b { statements = ss })).statements) (sym (lines-rebuilt x v made_there made-there_names 0 b.statements names-valued))
      (lines-inlined (outer_of i m) x A B v number b.statements sets h.before h.without h.behind))
    where
      A : List Declared
      A = with_it (outer_of i m) x proper ps b outer d.parameters d.temporaries d.outer_free

      B : List Declared
      B = without_it (outer_of i m) x proper ps b outer d.parameters d.temporaries d.outer_free

-- the statements of a block
abbrev lines_of : TreeOf Name → StatementsOf Name
lines_of (block ps ts ss c) = ss
lines_of t = no_statements

-- where the block stands, the method is made anew there alone
module _ (m : MethodOf Name) (x : Name) (e : LetOf Name) (j : ℕ) (js : List ℕ) (ps : List Name) (b : SequenceOf Name) (outer : List (PlacedScope Name)) (same : e.sequence ≡ j ∷ js) (d : Declares m x (j ∷ js) ps b outer)
    (c s : TreeOf Name) (n : nth (statement_trees m.body.statements) j ≡ Some c) (it : InBlock s ps b e.number s [] c js) where
  abbrev path : List ℕ
  path = j ∷ js

  outside-stays : (way : List ℕ) (y : Name) → part_in m.body way ≡ Some (var y) → ((rest : List ℕ) → way ≡ path ++ rest → ⊥) → made m x e way (var y) ≡ var y
  outside-stays way y p apart = by (text_eq x y) (is_some (temporary_scope (local m x way y))) refl refl
    where
      inside-so : text_eq x y ≡ true → is_some (temporary_scope (local m x way y)) ≡ true → ⊥
      inside-so told l = let r = d.reads_inside way y p (ap (λ z. is_some (temporary_scope (local m x way z))) (text-same x y told) ∙ l) in apart (r.number ∷ r.rest) r.same

      by : (t l : Bool) → text_eq x y ≡ t → is_some (temporary_scope (local m x way y)) ≡ l → (if is_some (if t then temporary_scope (local m x way y) else None) then e.value else var y) ≡ var y
      by false l q r = refl
      by true false q r = ap (λ z. if z then e.value else var y) r
      by true true q r = absurd (inside-so q r)

  -- the block after the walk
  abbrev pub middle : TreeOf Name
  middle = block ps b.temporaries (rebuilt_statements (λ q u. made m x e (path ++ q) u) 0 b.statements) b.tail

  walked : rebuilt_statements (made m x e) 0 m.body.statements ≡ statements_replaced m.body.statements path middle
  walked =
      ap lines_of
      (rebuilt-block (made m x e) (made-names m x e) (block_below {t = block [] [] m.body.statements []} n it) stays
      ∙ replaced-block [] [] m.body.statements [] j js middle)
    where
      stays : (way : List ℕ) (y : Name) → part_at (block [] [] m.body.statements []) way ≡ Some (var y) → ((rest : List ℕ) → way ≡ path ++ rest → ⊥) → made m x e way (var y) ≡ var y
      stays [] y p apart = absurd (cc)
      stays (k ∷ ks) y p apart = outside-stays (k ∷ ks) y p apart

  pub inlined-there : part_in m.body path ≡ Some (block_with ps b) → (b' : SequenceOf Name) → block_changed (without m x e) middle ≡ block ps b'.temporaries b'.statements b'.tail → temporary_inlined text_asked m x e ≡ method_replaced m path (block ps b'.temporaries b'.statements b'.tail)
  inlined-there there b' q =
      ap (λ way. sequence_changed (without m x e) way (rebuilt_method (made m x e) m)) same
      ∙ ap (λ ss. sequence_changed (without m x e) path (record m { body = record m.body { statements = ss } })) walked
      ∙ ap (λ o. unwrap_or (option_map (λ t. method_replaced (method_replaced m path middle) path (block_changed (without m x e) t)) o) (method_replaced m path middle)) (part_in-replaced_in m.body path (block_with ps b) middle there)
      ∙ ap (λ t. method_replaced (method_replaced m path middle) path t) q
      ∙ ap (λ z. record m { body = z }) (replaced_in-replaced_in m.body path middle (block ps b'.temporaries b'.statements b'.tail))

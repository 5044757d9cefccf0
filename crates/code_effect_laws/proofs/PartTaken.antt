-- The method that a part becomes is proper, and so is the message that stands in place of it.
use Rattle.std.proofs.Common.{◌≡◌, ℕ, Bool, true, false, List, [], ◌∷◌, ◌++◌, map, length, Some, None, option_and_then, refl, sym, ap, subst, ◌∙◌, true≢false}
use Rattle.std.specs.Prelude.{if◌then◌else◌, codes}
use Rattle.std.specs.List.{list_any}
use Rattle.std.specs.Str.{bytes_eq}
use Rattle.std.proofs.lemmas.Bool.{not-true}
use Rattle.std.proofs.lemmas.List.{append-nil}
use Rattle.rb_base.specs.Names.{text_eq}
use Rattle.tree_model.specs.Tree.{TreeOf, var, assign, trees_of, MethodOf}
use Rattle.tree_model.specs.Path.{part_at, part_in}
use Rattle.tree_model.specs.Nodes.{Placed, nodes}
use Rattle.tree_model.proofs.NodesLemmas.{Contains-part_in}
use Rattle.scope_model.specs.declared.local.Local.{Local}
use Rattle.scope_model.specs.declared.local.Local.TheVariants.{Argument, Temporary, NotLocal}
use Rattle.scope_model.specs.SpecialNames.{is_pseudo_variable}
use Rattle.scope_model.specs.Scope.{PlacedScope, method_scope, entered, scopes_round, is_among, local_by, local_in}
use Rattle.text_model.specs.Literals.{is_selector}
use Rattle.grammar_model.specs.Words.{is_pseudo}
use Rattle.grammar_model.specs.Checks.{Known, is_fixed}
use Rattle.reread_law.specs.Declarations.{repeats, known_names}
use Rattle.file_model.specs.Filing.{Text}
use Rattle.file_laws.proofs.Moves.{text_equal}
use Rattle.rename_model.specs.CommandWords.{arity}
use Rattle.command_model.specs.Asked.{text_asked}
use Rattle.command_model.specs.Extracted.{statements_of_part, names_in, free_temporaries, call_of}
use Rattle.command_model.specs.PartConditions.{assigns_no_outer, has_no_return}
use Rattle.command_model.specs.Parts.{Part, is_within, beginning, inside_from}
use Rattle.command_model.specs.Places.{part_nodes, is_return, is_local}
use Rattle.code_command_laws.proofs.PutBackRun.{part_in-append}
use Rattle.code_command_laws.proofs.Rebuilt.{rebuilt-same}
use Rattle.effect_laws.proofs.Arities.{fits_from, pattern_from}
use Rattle.effect_laws.proofs.Items.{In, Once, in_contains, in_filter, filter_in, once_filter}
use Rattle.effect_laws.proofs.Tests.{among, none_in}
use Rattle.code_effect_laws.proofs.Proper.{IsProper, AreProperStatements}
use Rattle.code_effect_laws.proofs.Stands.{itself_stands}
use Rattle.code_effect_laws.proofs.Places.{known_at}
use Rattle.code_effect_laws.proofs.Walked.{tree_walked}
use Rattle.code_effect_laws.proofs.Methods.{IsProperMethod, method_part, known_in}
use Rattle.code_effect_laws.proofs.Known.{behind-both, no-pseudo}
use Rattle.code_effect_laws.proofs.Locals.{fixed_by, known-before, local_behind, local-behind}
use Rattle.code_effect_laws.proofs.Scopes.{scopes-on, is_declared_outside, declared-outside}
use Rattle.code_effect_laws.proofs.FreeWords.{AreWords, once_repeats, all_words, vars_proper, vars_count}

-- a name that is declared in a method is not `super`
super_pseudo : is_pseudo_variable (codes "super") ≡ true
unfolding is_pseudo_variable
super_pseudo = refl

local_other : (m : MethodOf Text) (path : List ℕ) (n : Text) → is_local (local_in text_eq is_pseudo_variable m path n) ≡ true → bytes_eq n (codes "super") ≡ false
local_other m path n h = by (text_eq n (codes "super")) refl
  where
    by : (b : Bool) → text_eq n (codes "super") ≡ b → text_eq n (codes "super") ≡ false
    by true e =
        let pseudo : is_pseudo_variable n ≡ true = ap is_pseudo_variable (text_equal n (codes "super") e) ∙ super_pseudo in
        absurd (true≢false (sym h ∙ ap (λ b. is_local (if b then NotLocal else local_by text_eq (scopes_round (method_scope m) path) n)) pseudo))
    by false e = e

module _ (m : MethodOf Text) (part : Part) where
  -- the arguments of the new method, and what is known in it
  abbrev pub taken : List Text
  taken = free_temporaries text_asked m part

  abbrev pub inner_known : List Known
  inner_known = known_names taken [] ++ []

  taken_local : (n : Text) → In taken n → is_local (local_in text_eq is_pseudo_variable m (beginning part) n) ≡ true
  taken_local n h = (filter_in (λ y. is_local (local_in text_eq is_pseudo_variable m (beginning part) y)) (names_in text_asked m part) n h).1

  -- a piece of the part
  pub record IsPiece (place : List ℕ) (u : TreeOf Text) : Type 0 where
    pub there : part_in m.body place ≡ Some u
    pub within : (rest : List ℕ) → is_within part (place ++ rest) ≡ true
    pub depth : inside_from part ≡ length place
    pub same_scopes : scopes_round (method_scope m) (beginning part) ≡ scopes_round (method_scope m) place

  -- a node of the part
  node_in : (path : List ℕ) (u : TreeOf Text) → part_in m.body path ≡ Some u → is_within part path ≡ true → In (part_nodes m part) (path, u)
  node_in path u found within = in_filter (λ (e : Placed Text). is_within part e.0) (nodes m.body) (path, u) (in_contains (nodes m.body) (path, u) (Contains-part_in m.body path u found)) within

  -- a piece is no return
  pub piece_no_return : has_no_return m part ≡ true → (place : List ℕ) (u : TreeOf Text) → IsPiece place u → is_return u ≡ false
  piece_no_return h place u i =
      none_in (λ (e : Placed Text). is_return e.1) (part_nodes m part) (not-true (list_any (λ (e : Placed Text). is_return e.1) (part_nodes m part)) h) (place, u)
      (node_in place u i.there (ap (is_within part) (sym (append-nil place)) ∙ i.within []))

  module _ (p : IsProperMethod m) (outer : assigns_no_outer text_asked m part ≡ true) where
    -- what a piece assigns may be assigned in the new method
    loose : (k : ℕ) (path : List ℕ) (u : TreeOf Text) → IsPiece (k ∷ path) u → (rest : List ℕ) (n : Text) (w : TreeOf Text) → part_at u rest ≡ Some (assign n w) → is_pseudo n ≡ false
        → is_fixed (known_at (length (k ∷ path)) u rest (known_in m (k ∷ path))) n ≡ false → is_fixed (known_at (length (k ∷ path)) u rest inner_known) n ≡ false
    loose k path u i rest n w e ordinary free =
        known-before (entered (length (k ∷ path)) u rest) inner_known n
        ∙ inner (local_by text_eq (entered (length (k ∷ path)) u rest) n) refl (sym (known-before (entered (length (k ∷ path)) u rest) (known_in m (k ∷ path)) n) ∙ free)
      where
        round : Local
        round = local_by text_eq (scopes_round (method_scope m) (k ∷ path)) n

        found : part_in m.body (k ∷ (path ++ rest)) ≡ Some (assign n w)
        found = part_in-append m.body k path rest ∙ ap (option_and_then (λ (c : TreeOf Text). part_at c rest)) i.there ∙ e

        not_outer : is_declared_outside (inside_from part) (local_in text_eq is_pseudo_variable m (k ∷ (path ++ rest)) n) ≡ false
        not_outer = none_in _ (part_nodes m part) (not-true _ outer) (k ∷ (path ++ rest), assign n w) (node_in (k ∷ (path ++ rest)) (assign n w) found (i.within rest))

        told : local_in text_eq is_pseudo_variable m (k ∷ (path ++ rest)) n ≡ local_behind (local_by text_eq (entered (length (k ∷ path)) u rest) n) (local_by text_eq (scopes_round (method_scope m) (k ∷ path)) n)
        told =
            ap (λ b. if b then NotLocal else local_by text_eq (scopes_round (method_scope m) (k ∷ (path ++ rest))) n) (no-pseudo n ordinary)
            ∙ ap (λ (xs : List (PlacedScope Text)). local_by text_eq xs n) (scopes-on m k path rest u i.there)
            ∙ local-behind (entered (length (k ∷ path)) u rest) (scopes_round (method_scope m) (k ∷ path)) n

        not_taken : local_by text_eq (entered (length (k ∷ path)) u rest) n ≡ NotLocal → (b : Bool) → is_among text_eq (free_temporaries text_asked m part) n ≡ b → b ≡ false
        not_taken none false q = refl
        not_taken none true q =
            let declared : is_local (local_by text_eq (scopes_round (method_scope m) (k ∷ path)) n) ≡ true =
            ap (λ (xs : List (PlacedScope Text)). is_local (local_by text_eq xs n)) (sym i.same_scopes)
            ∙ ap (λ b. is_local (if b then NotLocal else local_by text_eq (scopes_round (method_scope m) (beginning part)) n)) (sym (no-pseudo n ordinary))
            ∙ taken_local n (among n (free_temporaries text_asked m part) q) in
            let outside : is_declared_outside (length (k ∷ path)) (local_by text_eq (scopes_round (method_scope m) (k ∷ path)) n) ≡ false =
            (λ j. is_declared_outside (sym i.depth j) (sym (told ∙ ap (λ x. local_behind x (local_by text_eq (scopes_round (method_scope m) (k ∷ path)) n)) none) j)) ∙ not_outer in
            absurd (true≢false (sym declared ∙ sym (declared-outside m k path n) ∙ outside))

        inner : (l : Local) → local_by text_eq (entered (length (k ∷ path)) u rest) n ≡ l → fixed_by l (is_fixed (known_in m (k ∷ path)) n) ≡ false → fixed_by l (is_fixed inner_known n) ≡ false
        inner (Argument s) q f = absurd (true≢false f)
        inner (Temporary s) q f = refl
        inner NotLocal q f = behind-both taken [] [] n ∙ ap (λ b. if b then true else false) (not_taken q (is_among text_eq taken n) refl)

    -- so a piece is proper there
    pub piece_proper : (place : List ℕ) (u : TreeOf Text) → IsPiece place u → IsProper inner_known u
    piece_proper [] u i = let nowhere = i.there in absurd (cc)
    piece_proper (k ∷ path) u i =
        subst (IsProper inner_known) (rebuilt-same (λ rest v. v) (λ rest v. refl) u)
        (tree_walked u (λ rest v. v) (length (k ∷ path)) (known_in m (k ∷ path)) inner_known
        (record {
          literals = λ rest l. refl;
          sends = λ rest r s xs. refl;
          cascades = λ rest r ms. refl;
          blocks = λ rest ps ds ss c. refl;
          braces = λ rest ts. refl;
          returns = λ rest t. refl;
        })
        (record {
          reads = λ rest n e word. (word, itself_stands (var n));
          assigns = λ rest n w v e word ordinary free good value. ((word, ordinary, loose k path u i rest n w e ordinary free, good, value), itself_stands (assign n v));
        })
        (method_part m (k ∷ path) u p i.there)).0

  -- the names are identifiers, and the selector takes so many
  module _ (t : Text) (selector : is_selector t ≡ true) (fits : arity t ≡ length taken) (words : AreWords (names_in text_asked m part)) where
    taken_words : AreWords taken
    taken_words n h = words n (filter_in (λ y. is_local (local_in text_eq is_pseudo_variable m (beginning part) y)) (names_in text_asked m part) n h).0

    -- the message
    pub call_proper : (ks : List Known) → IsProper ks (call_of text_asked t m part)
    call_proper ks = (
      refl,
      tt,
      fits_from t (trees_of (map (λ (n : Text). var n) taken)) selector (fits ∙ sym (vars_count taken)),
      vars_proper ks taken (λ n h. (taken_words n h, local_other m (beginning part) n (taken_local n h))),
    )

    -- the method, but for where its first comments stand
    abbrev pub raw : MethodOf Text
    raw = record { selector = t; arguments = taken; head = []; primitive = None; body = record { temporaries = []; statements = statements_of_part m part; tail = [] } }

    pub raw_proper : Once (names_in text_asked m part) → AreProperStatements inner_known (statements_of_part m part) → IsProperMethod raw
    raw_proper once body = record {
      pattern = pattern_from t taken selector fits (all_words taken taken_words);
      head = tt;
      body = record {
        words = tt;
        once = ap (repeats []) (append-nil taken) ∙ once_repeats taken (once_filter (λ y. is_local (local_in text_eq is_pseudo_variable m (beginning part) y)) (names_in text_asked m part) once);
        statements = body;
        notes = tt;
      };
      primitive = refl;
    }

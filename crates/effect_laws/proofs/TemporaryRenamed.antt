-- A method in which a temporary has a new name is well formed.
use Rattle.std.proofs.Common.{◌≡◌, ◌⊎◌, inl, inr, ℕ, ◌≤◌, Bool, true, false, List, [], ◌∷◌, ◌++◌, map, refl, sym, ap, subst, ◌∙◌}
use Rattle.std.specs.Prelude.{◌||◌, if◌then◌else◌}
use Rattle.std.specs.List.{list_any}
use Rattle.std.proofs.lemmas.Bool.{or_parts}
use Rattle.std.proofs.lemmas.List.{append-nil}
use Rattle.std.proofs.lemmas.List.Folds.{list_any-append}
use Rattle.rb_base.specs.Names.{text_eq}
use Rattle.tree_model.specs.Tree.{Notes, LiteralOf, TreeOf, var, literal, send, cascade, assign, block, brace, return, TreesOf, MessagesOf, StatementsOf, no_statements, more_statements, SequenceOf, MethodOf}
use Rattle.tree_model.specs.Nodes.{nodes}
use Rattle.tree_model.specs.Normal.{leading_of}
use Rattle.scope_model.specs.SpecialNames.{is_pseudo_variable}
use Rattle.scope_model.specs.Scope.{local_in}
use Rattle.reread_law.specs.Declarations.{known_names, assigns_fixed_statements}
use Rattle.reread_law.specs.WholeTrees.{WellFormedSequence, FitsPrimitive, WellFormedMethod}
use Rattle.file_model.specs.Filing.{Text}
use Rattle.rename_model.specs.NamesThere.{is_named_by, is_named_in}
use Rattle.rename_model.specs.Renamed.{NewName}
use Rattle.command_model.specs.Asked.{text_asked}
use Rattle.command_model.specs.Places.{is_local}
use Rattle.command_model.specs.Temporaries.{temporary_renamed}
use Rattle.command_model.specs.Walk.{Making}
use Rattle.effect_laws.proofs.NewNames.{IsNewName}
use Rattle.effect_laws.proofs.NamesCalled.{to, to_is, IsTo, words_to, pattern_to, twice_to, known_anew, lacks_known}
use Rattle.effect_laws.proofs.TreesCalled.{called_statements, Calls, IsCalling, statements_walked, statements_height_called, statements_well_called}
use Rattle.effect_laws.proofs.DeclarationsCalled.{statements_twice_called, statements_assigned_called}
use Rattle.effect_laws.proofs.WholeTrees.{no_primitive}

module _ (x y : Text) where
  -- a body, and a method
  abbrev pub sequence_called : NewName Text → SequenceOf Text → SequenceOf Text
  sequence_called u b = record b { temporaries = map (to x y) b.temporaries; statements = called_statements x y u 0 b.statements }

  abbrev pub method_called : NewName Text → MethodOf Text → MethodOf Text
  method_called u m = record m { arguments = map (to x y) m.arguments; body = sequence_called u m.body }

  module _ (new : IsNewName y) (u : NewName Text) (calling : IsCalling x y u) where
    sequence_called_well : (ps : List Text) (b : SequenceOf Text) → WellFormedSequence ps b → list_any (text_eq y) ps ≡ false → is_named_in text_eq y b ≡ false → WellFormedSequence (map (to x y) ps) (sequence_called u b)
    sequence_called_well ps b w free unnamed = record {
      words = words_to x y new.word b.temporaries w.words;
      statements = statements_well_called x y new.word new.other b.statements u 0 calling w.statements;
      notes = w.notes;
      height = subst (λ (k : ℕ). k ≤ 200) (sym (statements_height_called x y b.statements u 0)) w.height;
      once = twice_to x y ps b.temporaries undeclared ∙ w.once;
      once_inside = statements_twice_called x y b.statements u 0 0 parts.1 ∙ w.once_inside;
      assigned =
          ap (λ ks. assigns_fixed_statements ks (called_statements x y u 0 b.statements))
          (sym (append-nil (known_names (map (to x y) ps) (map (to x y) b.temporaries))) ∙ known_anew x y ps b.temporaries [])
          ∙ statements_assigned_called x y new.ordinary b.statements u 0 0 (known_names ps b.temporaries ++ []) calling (lacks_known x y ps b.temporaries [] undeclared refl) parts.1
          (ap (λ ks. assigns_fixed_statements ks b.statements) (append-nil (known_names ps b.temporaries)) ∙ w.assigned);
    }
      where
        parts : (list_any (text_eq y) b.temporaries ≡ false) × (list_any (λ e. is_named_by text_eq y e.1) (nodes b) ≡ false)
        parts = or_parts (list_any (text_eq y) b.temporaries) (list_any (λ e. is_named_by text_eq y e.1) (nodes b)) unnamed

        undeclared : list_any (text_eq y) (ps ++ b.temporaries) ≡ false
        undeclared = list_any-append (text_eq y) ps b.temporaries ∙ (λ i. free i || parts.0 i)

    -- the first comments stay
    leading_called : (ss : StatementsOf Text) (tail : Notes) → leading_of (called_statements x y u 0 ss) tail ≡ leading_of ss tail
    leading_called no_statements tail = refl
    leading_called (more_statements c t ss) tail = refl

    none_before : (ns : List Text) → map (to x y) ns ≡ [] → ns ≡ []
    none_before [] e = refl
    none_before (n ∷ ns) e = absurd (cc)

    pub method_called_well : (m : MethodOf Text) → WellFormedMethod false m → list_any (text_eq y) m.arguments ≡ false → is_named_in text_eq y m.body ≡ false → WellFormedMethod false (method_called u m)
    method_called_well m w free unnamed = record {
      pattern = pattern_to x y new.word m.selector m.arguments w.pattern;
      head = w.head;
      body = sequence_called_well m.arguments m.body w.body free unnamed;
      primitive =
          subst (λ p. FitsPrimitive false p (map (to x y) m.body.temporaries) (called_statements x y u 0 m.body.statements)) (sym (no_primitive m.primitive m.body.temporaries m.body.statements w.primitive)) tt;
      normal = λ none. leading_called m.body.statements m.body.tail ∙ w.normal (none_before m.body.temporaries none);
    }

  -- the method after the command
  module _ (m : MethodOf Text) where
    abbrev used : NewName Text
    used path n = if is_local (local_in text_eq is_pseudo_variable m path n) then to x y n else n

    used_calling : IsCalling x y used
    used_calling path n = by (is_local (local_in text_eq is_pseudo_variable m path n)) (to_is x y n)
      where
        by : (b : Bool) → IsTo x y n → ((if b then to x y n else n) ≡ n) ⊎ ((x ≡ n) × ((if b then to x y n else n) ≡ y))
        by true (inl p) = inr p
        by true (inr q) = inl q.1
        by false e = inl refl

    -- a walk is told by what it makes of the forms of nodes
    by_forms : (f : Making Text) → ((path : List ℕ) (n : Text) → f path (var n) ≡ var (used path n)) → ((path : List ℕ) (l : LiteralOf Text) → f path (literal l) ≡ literal l)
        → ((path : List ℕ) (r : TreeOf Text) (s : Text) (args : TreesOf Text) → f path (send r s args) ≡ send r s args) → ((path : List ℕ) (r : TreeOf Text) (ms : MessagesOf Text) → f path (cascade r ms) ≡ cascade r ms)
        → ((path : List ℕ) (n : Text) (t : TreeOf Text) → f path (assign n t) ≡ assign (used path n) t)
        → ((path : List ℕ) (ps ts : List Text) (ss : StatementsOf Text) (e : Notes) → f path (block ps ts ss e) ≡ block (map (to x y) ps) (map (to x y) ts) ss e)
        → ((path : List ℕ) (ts : TreesOf Text) → f path (brace ts) ≡ brace ts) → ((path : List ℕ) (t : TreeOf Text) → f path (return t) ≡ return t) → Calls x y f used
    by_forms f v l s c a b r t path (var n) = v path n
    by_forms f v l s c a b r t path (literal k) = l path k
    by_forms f v l s c a b r t path (send q u args) = s path q u args
    by_forms f v l s c a b r t path (cascade q ms) = c path q ms
    by_forms f v l s c a b r t path (assign n u) = a path n u
    by_forms f v l s c a b r t path (block ps ts ss e) = b path ps ts ss e
    by_forms f v l s c a b r t path (brace ts) = r path ts
    by_forms f v l s c a b r t path (return u) = t path u

    statements_after : (temporary_renamed text_asked m x y).body.statements ≡ called_statements x y used 0 m.body.statements
    statements_after =
        statements_walked x y m.body.statements _ used 0
        (by_forms _ (λ path n. refl) (λ path l. refl) (λ path r s args. refl) (λ path r ms. refl) (λ path n t. refl) (λ path ps ts ss e. refl) (λ path ts. refl) (λ path t. refl))

    pub renamed_well : IsNewName y → WellFormedMethod false m → list_any (text_eq y) m.arguments ≡ false → is_named_in text_eq y m.body ≡ false → WellFormedMethod false (temporary_renamed text_asked m x y)
    renamed_well new w free unnamed =
        subst (WellFormedMethod false) (λ i. record m { arguments = map (to x y) m.arguments; body = record m.body { temporaries = map (to x y) m.body.temporaries; statements = sym statements_after i } })
        (method_called_well new used used_calling m w free unnamed)

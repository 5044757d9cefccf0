-- Methods and sequences that are proper.
use Rattle.std.proofs.Common.{◌≡◌, inr, ℕ, ◌≤◌, false, List, [], ◌∷◌, ◌++◌, Option, Some, None, option_map, refl, sym, ap, subst}
use Rattle.std.specs.Prelude.{unwrap_or}
use Rattle.std.proofs.lemmas.List.{append-nil}
use Rattle.std.proofs.Common.{true≢false}
use Rattle.tree_model.specs.Tree.{Notes, TreeOf, block, StatementsOf, no_statements, more_statements, SequenceOf, MethodOf}
use Rattle.tree_model.specs.Path.{part_in, method_replaced}
use Rattle.tree_model.specs.Measure.{sequence_height}
use Rattle.tree_model.specs.Normal.{leading_of, without_leading_of, normal_by, normal, IsNormal}
use Rattle.tree_model.proofs.NormalLemmas.{IsNormal-normal}
use Rattle.grammar_model.specs.Checks.{Known}
use Rattle.reread_law.specs.WellFormed.{AllNotes, AllWords}
use Rattle.reread_law.specs.Declarations.{repeats, known_names, assigns_fixed_statements}
use Rattle.reread_law.specs.WholeTrees.{IsPattern, FitsPrimitive, WellFormedMethod}
use Rattle.reread_law.proofs.Sound.{notes_append}
use Rattle.file_model.specs.Filing.{Text}
use Rattle.command_model.specs.Sequences.{block_changed, sequence_changed}
use Rattle.code_effect_laws.proofs.Proper.{IsProper, AreProperStatements, statements_proper, statements_well, statements_once, statements_free}
use Rattle.code_effect_laws.proofs.Stands.{StandsFor}
use Rattle.code_effect_laws.proofs.Places.{known_among, part_of_statements, statements_replaced_proper}

-- a sequence with these parameters among known names
pub record IsProperSequence (ks : List Known) (ps : List Text) (b : SequenceOf Text) : Type 0 where
  pub words : AllWords b.temporaries
  pub once : repeats [] (ps ++ b.temporaries) ≡ false
  pub statements : AreProperStatements (known_names ps b.temporaries ++ ks) b.statements
  pub notes : AllNotes b.tail

-- a method of a user, but for its height and for where its first comments stand
pub record IsProperMethod (m : MethodOf Text) : Type 0 where
  pub pattern : IsPattern m.selector m.arguments
  pub head : AllNotes m.head
  pub body : IsProperSequence [] m.arguments m.body
  pub primitive : m.primitive ≡ None

no_primitive : (o : Option ℕ) (ts : List Text) (ss : StatementsOf Text) → FitsPrimitive false o ts ss → o ≡ None
no_primitive None ts ss h = refl
no_primitive (Some n) ts ss h = absurd (true≢false (sym h.0))

-- a well formed method is proper
pub method_proper : (m : MethodOf Text) → WellFormedMethod false m → IsProperMethod m
method_proper m w = record {
  pattern = w.pattern;
  head = w.head;
  body = record {
    words = w.body.words;
    once = w.body.once;
    statements =
        subst (λ zs. AreProperStatements zs m.body.statements) (sym (append-nil (known_names m.arguments m.body.temporaries)))
        (statements_proper m.body.statements (known_names m.arguments m.body.temporaries) w.body.statements w.body.once_inside w.body.assigned);
    notes = w.body.notes;
  };
  primitive = no_primitive m.primitive m.body.temporaries m.body.statements w.primitive;
}

-- and a proper one is well formed where its comments are in normal form and it is low
pub method_well : (m : MethodOf Text) → IsProperMethod m → IsNormal m → sequence_height m.body ≤ 200 → WellFormedMethod false m
method_well m p n h = record {
  pattern = p.pattern;
  head = p.head;
  body = record {
    words = p.body.words;
    statements = statements_well m.body.statements (known_names m.arguments m.body.temporaries ++ []) p.body.statements;
    notes = p.body.notes;
    height = h;
    once = p.body.once;
    once_inside = statements_once m.body.statements (known_names m.arguments m.body.temporaries ++ []) p.body.statements;
    assigned =
        subst (λ zs. assigns_fixed_statements zs m.body.statements ≡ false) (append-nil (known_names m.arguments m.body.temporaries))
        (statements_free m.body.statements (known_names m.arguments m.body.temporaries ++ []) p.body.statements);
  };
  primitive = subst (λ o. FitsPrimitive false o m.body.temporaries m.body.statements) (sym p.primitive) tt;
  normal = n;
}

-- a sequence without its first comments
leading_taken : (ks : List Known) (ps ts : List Text) (ss : StatementsOf Text) (tail : Notes) → IsProperSequence ks ps (record { temporaries = ts; statements = ss; tail = tail }) → IsProperSequence ks ps (without_leading_of ts ss tail) × AllNotes (leading_of ss tail)
leading_taken ks ps ts no_statements tail p = (record { words = p.words; once = p.once; statements = tt; notes = tt }, p.notes)
leading_taken ks ps ts (more_statements c t ss) tail p =
    let q = p.statements in (record { words = p.words; once = p.once; statements = (tt, q.1, q.2, q.3); notes = p.notes }, q.0)

normal_by_proper : (ns : List Text) (m : MethodOf Text) → IsProperMethod m → IsProperMethod (normal_by ns m)
normal_by_proper [] m p =
    let taken = leading_taken [] m.arguments m.body.temporaries m.body.statements m.body.tail p.body in
    record { pattern = p.pattern; head = notes_append m.head (leading_of m.body.statements m.body.tail) p.head taken.1; body = taken.0; primitive = p.primitive }
normal_by_proper (n ∷ ns) m p = p

-- a proper method in normal form
pub normal_well : (m : MethodOf Text) → IsProperMethod m → sequence_height (normal m).body ≤ 200 → WellFormedMethod false (normal m)
normal_well m p h = method_well (normal m) (normal_by_proper m.body.temporaries m p) (IsNormal-normal m) h

module _ (m : MethodOf Text) where
  -- what is known where a path leads
  abbrev pub known_in : List ℕ → List Known
  known_in path = known_among m.body.statements path (known_names m.arguments m.body.temporaries ++ [])

  pub method_part : (path : List ℕ) (c : TreeOf Text) → IsProperMethod m → part_in m.body path ≡ Some c → IsProper (known_in path) c
  method_part path c p e = part_of_statements path (known_names m.arguments m.body.temporaries ++ []) m.body.statements c p.body.statements e

  pub method_replaced_proper : (path : List ℕ) (c u : TreeOf Text) → IsProperMethod m → part_in m.body path ≡ Some c → IsProper (known_in path) u → StandsFor c u → IsProperMethod (method_replaced m path u)
  method_replaced_proper path c u p e q s = record {
    pattern = p.pattern;
    head = p.head;
    body = record {
      words = p.body.words;
      once = p.body.once;
      statements = statements_replaced_proper path (known_names m.arguments m.body.temporaries ++ []) m.body.statements c u p.body.statements e q s;
      notes = p.body.notes;
    };
    primitive = p.primitive;
  }

-- the sequence to which a path leads, its parameters, and what is known behind it
pub data IsSequenceAt (m : MethodOf Text) : List ℕ → List Known → List Text → SequenceOf Text → Type 0 where
  IsBody : IsSequenceAt m [] [] m.arguments m.body
  IsInBlock : {k : ℕ} {path : List ℕ} {ps ts : List Text} {ss : StatementsOf Text} {e : Notes} → part_in m.body (k ∷ path) ≡ Some (block ps ts ss e) →
      IsSequenceAt m (k ∷ path) (known_in m (k ∷ path)) ps (record { temporaries = ts; statements = ss; tail = e })

-- the method with another sequence there, which is proper where the first one is
pub changed_proper : (change : SequenceOf Text → SequenceOf Text) (m : MethodOf Text) (path : List ℕ) (ks : List Known) (ps : List Text) (b : SequenceOf Text) → IsSequenceAt m path ks ps b → IsProperMethod m →
    (IsProperSequence ks ps b → IsProperSequence ks ps (change b)) → IsProperMethod (sequence_changed change path m)
changed_proper change m path ks ps b IsBody p keeps = record { pattern = p.pattern; head = p.head; body = keeps p.body; primitive = p.primitive }
changed_proper change m path ks ps b (IsInBlock {k = k} {path = way} {ts = ts} {ss = ss} {e = e} found) p keeps =
    let t : TreeOf Text = block ps ts ss e in
    let q : IsProper (known_in m (k ∷ way)) t = method_part m (k ∷ way) t p found in
    let r = keeps (record { words = q.1; once = q.2; statements = q.3; notes = q.4 }) in
    subst IsProperMethod (sym (ap (λ (o : Option (TreeOf Text)). unwrap_or (option_map (λ u. method_replaced m (k ∷ way) (block_changed change u)) o) m) found))
    (method_replaced_proper m (k ∷ way) t (block_changed change t) p found (q.0, r.words, r.once, r.statements, r.notes) (inr (tt, tt, λ v. v)))

-- a sequence of a proper method is proper
pub sequence_proper : (m : MethodOf Text) (path : List ℕ) (ks : List Known) (ps : List Text) (b : SequenceOf Text) → IsSequenceAt m path ks ps b → IsProperMethod m → IsProperSequence ks ps b
sequence_proper m path ks ps b IsBody p = p.body
sequence_proper m path ks ps b (IsInBlock {k = k} {path = way} {ts = ts} {ss = ss} {e = e} found) p =
    let q : IsProper (known_in m (k ∷ way)) (block ps ts ss e) = method_part m (k ∷ way) (block ps ts ss e) p found in record { words = q.1; once = q.2; statements = q.3; notes = q.4 }

-- the selector stays
pub changed_selector : (change : SequenceOf Text → SequenceOf Text) (path : List ℕ) (m : MethodOf Text) → (sequence_changed change path m).selector ≡ m.selector
changed_selector change [] m = refl
changed_selector change (k ∷ path) m = by (part_in m.body (k ∷ path))
  where
    by : (o : Option (TreeOf Text)) → (unwrap_or (option_map (λ t. method_replaced m (k ∷ path) (block_changed change t)) o) m).selector ≡ m.selector
    by None = refl
    by (Some t) = refl

-- The canonical text of a method spells it.
use Rattle.std.proofs.Common.{◌≡◌, ℕ, ◌≤◌, Bool, true, List, [], ◌∷◌, ◌++◌, Option, Some, None, arith, refl, ap, sym, subst, ◌∙◌, append_assoc}
use Rattle.std.specs.Prelude.{codes}
use Rattle.std.specs.Fmt.{decimal}
use Rattle.std.proofs.lemmas.List.{append-nil}
use Rattle.token_model.specs.declared.kind.Dialect.TheVariants.{Second}
use Rattle.tree_model.specs.Tree.{Notes, TreeOf, StatementsOf, no_statements, more_statements, SequenceOf, MethodOf}
use Rattle.tree_model.specs.Measure.{statements_height, sequence_height}
use Rattle.tree_model.specs.Normal.{leading_of, without_leading_of, normal_by, normal}
use Rattle.text_model.specs.Expressions.{note_lines, temporary_lines, statement_lines}
use Rattle.text_model.specs.Whole.{sequence_lines, pattern_text, primitive_lines, canonical_method}
use Rattle.grammar_model.specs.Terminal.{Text, Numeral}
use Rattle.grammar_model.specs.Input.{Input, beginning, next, clear}
use Rattle.grammar_model.specs.Ahead.{Longest, Any}
use Rattle.grammar_model.specs.Spanned.{Declared, SpannedStatements, NoStatements, SpannedMethod, names_of, plain_statements, plain_sequence, plain_method}
use Rattle.grammar_model.specs.Whole.{WithBars, WithoutBars, Primitive, OnePrimitive, Behind, Plainly, Primitively, IsMethod}
use Rattle.grammar_model.specs.Spelling.{SpellsMethod}
use Rattle.grammar_model.proofs.Limits.{limit_Method, normal_Method}
use Rattle.grammar_model.proofs.Rows.{longest_IsMethod}
use Rattle.reread_law.specs.WholeTrees.{FitsPrimitive, IsPattern, WellFormedSequence, WellFormedMethod}
use Rattle.reread_law.specs.WellFormed.{IsKeywordText, AllNotes, AllWords, WellFormedStatements}
use Rattle.reread_law.proofs.Sound.{Sound, sound_kind, sound_next, sound_clear, notes_append, sound_lexed}
use Rattle.reread_law.proofs.Made.{made_Names, made_Statements}
use Rattle.reread_law.proofs.PlainFaults.{IsSound, sound_Method, no_fault_Method}
use Rattle.reread_law.proofs.Words.{bar_word, less_word, greater_word, keyword_word, numeral_before}
use Rattle.reread_law.proofs.Steps.{World, Here, step, blank_step, held_as, text_as, fresh_clear, finish}
use Rattle.reread_law.proofs.ReadsLiterals.{word_as, blanked}
use Rattle.reread_law.proofs.Sequences.{lined, joined_lines, ends_lined, line_break, at_line, reads_notes, reads_names, CanReadStatements, with_first, left_after, first_none, left_none, reads_statements}
use Rattle.reread_law.proofs.Trees.{can_read_statements}
use Rattle.reread_law.proofs.Starting.{over_notes, begun}
use Rattle.reread_law.proofs.Decimals.{decimal_unsigned, decimal_value, decimal_kind, greater_ends, small_value}
use Rattle.reread_law.proofs.Patterns.{made_Pattern, reads_pattern}

-- a method that some text spells
record GoodMethod (kernel : Bool) (m : MethodOf Text) : Type 0 where
  pattern : IsPattern m.selector m.arguments
  head : AllNotes m.head
  words : AllWords m.body.temporaries
  statements : WellFormedStatements m.body.statements
  tail : AllNotes m.body.tail
  primitive : FitsPrimitive kernel m.primitive m.body.temporaries m.body.statements

-- what stands behind a pattern
record GoodBehind (kernel : Bool) (c : Notes) (p : Option ℕ) (ts : List Text) (ss : StatementsOf Text) (j : Input) : Type 0 where
  opening : AllNotes c
  words : AllWords ts
  statements : WellFormedStatements ss
  primitive : FitsPrimitive kernel p ts ss
  sound : Sound j

-- what the grammar spells behind a pattern is good
made_Behind : {kernel : Bool} {i j : Input} {c : Notes} {p : Option ℕ} {ds : List Declared} {ss : SpannedStatements} → Behind Longest kernel i c p ds ss j → Sound i → GoodBehind kernel c p (names_of ds) (plain_statements ss) j
made_Behind (Plainly (WithBars e d f r)) s =
    let after = sound_next s in
    let g = made_Names d (sound_clear after) in
    let h = made_Statements r (sound_next g.1) in
    record { opening = after.held; words = g.0; statements = h.0; primitive = tt; sound = h.1 }
made_Behind (Plainly (WithoutBars n r)) s = let h = made_Statements r s in record { opening = tt; words = tt; statements = h.0; primitive = tt; sound = h.1 }
made_Behind (Primitively (OnePrimitive {t} e f g h)) s =
    let third = sound_next (sound_next s) in
    record { opening = tt; words = tt; statements = tt; primitive = (refl, small_value t (sym (sound_kind third g).1), refl, refl); sound = sound_next (sound_next third) }

-- a sequence without its first comments is good, and so are these
record GoodWithout (kernel : Bool) (p : Option ℕ) (first : Notes) (b : SequenceOf Text) : Type 0 where
  leading : AllNotes first
  words : AllWords b.temporaries
  statements : WellFormedStatements b.statements
  tail : AllNotes b.tail
  primitive : FitsPrimitive kernel p b.temporaries b.statements

-- where there is a statement there is no primitive
fits_first : (kernel : Bool) (p : Option ℕ) (ts : List Text) (c : Notes) (t : TreeOf Text) (ss : StatementsOf Text) → FitsPrimitive kernel p ts (more_statements c t ss) → FitsPrimitive kernel p ts (more_statements [] t ss)
fits_first kernel None ts c t ss h = tt
fits_first kernel (Some n) ts c t ss h = let e : more_statements c t ss ≡ no_statements = h.3 in cc

-- it is good where the sequence is
good_without : (kernel : Bool) (p : Option ℕ) (ts : List Text) (ss : StatementsOf Text) (tail : Notes) → AllWords ts → WellFormedStatements ss → AllNotes tail → FitsPrimitive kernel p ts ss → GoodWithout kernel p (leading_of ss tail) (without_leading_of ts ss tail)
good_without kernel p ts no_statements tail w g n f = record { leading = n; words = w; statements = tt; tail = tt; primitive = f }
good_without kernel p ts (more_statements c t ss) tail w g n f = record { leading = g.0; words = w; statements = (tt, g.1, g.2, g.3); tail = n; primitive = fits_first kernel p ts c t ss f }

-- the normal form of a good method is good
good_normal : (kernel : Bool) (ts : List Text) (m : MethodOf Text) → GoodMethod kernel m → GoodMethod kernel (normal_by ts m)
good_normal kernel [] m g =
    let x = good_without kernel m.primitive m.body.temporaries m.body.statements m.body.tail g.words g.statements g.tail g.primitive in
    record { pattern = g.pattern; head = notes_append m.head (leading_of m.body.statements m.body.tail) g.head x.leading; words = x.words; statements = x.statements; tail = x.tail; primitive = x.primitive }
good_normal kernel (n ∷ ns) m g = g

-- what a text spells is good
good_method : (kernel : Bool) (t : Text) (m : MethodOf Text) → SpellsMethod Second kernel t m → GoodMethod kernel m
good_method kernel t m h =
    let u = h.spanned in
    let raw : MethodOf Text = record { selector = u.selector; arguments = names_of u.arguments; head = u.opening; primitive = u.primitive; body = plain_sequence u.body } in
    let p = made_Pattern h.spells.grammar.pattern (sound_lexed Second t h.spells.tokens h.spells.lexed) in
    let b = made_Behind h.spells.grammar.behind p.1 in
    let good : GoodMethod kernel raw = record { pattern = p.0; head = b.opening; words = b.words; statements = b.statements; tail = over_notes h.spells.grammar.over b.sound; primitive = b.primitive } in
    subst (GoodMethod kernel) (sym h.same) (good_normal kernel (names_of u.body.temporaries) raw good)

-- and well formed
pub well_formed_method : (kernel : Bool) (t : Text) (m : MethodOf Text) → SpellsMethod Second kernel t m → WellFormedMethod kernel m
well_formed_method kernel t m h =
    let g = good_method kernel t m h in
    let f = subst (λ (m : MethodOf Text). IsSound m.arguments m.body.temporaries m.body.statements) (sym h.same) (sound_Method h.spanned h.spells.sound) in
    record {
      pattern = g.pattern;
      head = g.head;
      body = record { words = g.words; statements = g.statements; notes = g.tail; height = limit_Method Second kernel t m h; once = f.once; once_inside = f.once_inside; assigned = f.assigned };
      primitive = g.primitive;
      normal = normal_Method Second kernel t m h;
    }

-- a method by its parts
abbrev method_of : Text → List Text → Notes → Option ℕ → List Text → StatementsOf Text → Notes → MethodOf Text
method_of s xs head p ts ss e = record { selector = s; arguments = xs; head = head; primitive = p; body = record { temporaries = ts; statements = ss; tail = e } }

-- what stands behind a pattern was read: with the pattern it is the method
record BehindRead (w : World) (kernel : Bool) (i : Input) (head : Notes) (p : Option ℕ) (ts : List Text) (ss : StatementsOf Text) (e : Notes) : Type 0 where
  opening : Notes
  names : List Declared
  statements : SpannedStatements
  tail : Notes
  stop : Input
  read : Behind Any kernel i opening p names statements stop
  plain : (s : Text) (xs : List Text) → normal (method_of s xs opening p (names_of names) (plain_statements statements) tail) ≡ method_of s xs head p ts ss e
  here : Here w 0 stop tail []

-- comments that stand before the first statement go back to the head
normal_again : (s : Text) (xs : List Text) (head : Notes) (p : Option ℕ) (ss : StatementsOf Text) (e : Notes) → leading_of ss e ≡ [] → normal (method_of s xs [] p [] (with_first head ss) (left_after head ss ++ e)) ≡ method_of s xs head p [] ss e
normal_again s xs head p no_statements e f = λ i. method_of s xs ((ap (λ x. head ++ x) f ∙ append-nil head) i) p [] no_statements (sym f i)
normal_again s xs head p (more_statements c t ss) e f = λ i. method_of s xs ((ap (λ x. head ++ x) f ∙ append-nil head) i) p [] (more_statements (sym f i) t ss) e

-- a body without temporaries
reads_plain : (ss : StatementsOf Text) (e : Notes) → CanReadStatements ss → AllNotes e → leading_of ss e ≡ [] → (w : World) (kernel : Bool) (i : Input) (head : Notes) → statements_height ss ≤ 200 → Here w 0 i head (joined_lines (statement_lines 1 ss ++ note_lines 1 e) ++ []) → BehindRead w kernel i head None [] ss e
reads_plain ss e can notes f w kernel i head le a =
    let y = reads_statements ss can w 0 1 i head (note_lines 1 e) [] refl (omega arith) a in
    let z = reads_notes 1 e notes (left_after head ss) [] [] (text_as _ _ (ap (λ y. joined_lines y ++ []) (sym (append-nil (note_lines 1 e)))) y.here) in
    record {
      opening = [];
      names = [];
      statements = y.statements;
      tail = left_after head ss ++ e;
      stop = y.stop;
      read = Plainly (WithoutBars tt y.read);
      plain = λ s xs. ap (λ x. normal (method_of s xs [] None [] x (left_after head ss ++ e))) y.plain ∙ normal_again s xs head None ss e f;
      here = z;
    }

-- a body with temporaries
reads_barred : (x : Text) (ns : List Text) (ss : StatementsOf Text) (e : Notes) → AllWords (x ∷ ns) → CanReadStatements ss → AllNotes e → (w : World) (kernel : Bool) (i : Input) (head : Notes) → statements_height ss ≤ 200 → Here w 0 i head (joined_lines (temporary_lines 1 (x ∷ ns) ++ (statement_lines 1 ss ++ note_lines 1 e)) ++ []) → BehindRead w kernel i head None (x ∷ ns) ss e
reads_barred x ns ss e words can notes w kernel i head le a =
    let rest = blanked ((x ∷ ns) ++ (124 ∷ []) ∷ []) in
    let ls = statement_lines 1 ss ++ note_lines 1 e in
    let b = at_line 1 (124 ∷ rest) ls [] a in
    let y = step 0 (124 ∷ []) (rest ++ (lined ls ++ [])) (bar_word (rest ++ (lined ls ++ []))) (λ c f e ts. refl) b in
    let z = reads_names (x ∷ ns) words w 0 (clear (next i)) [] (lined ls ++ []) (fresh_clear y.fresh).here in
    let v = step 0 (124 ∷ []) (lined ls ++ []) (bar_word (lined ls ++ [])) (λ c f e ts. refl) z.here in
    let u = reads_statements ss can w 0 1 (next z.stop) [] (note_lines 1 e) [] refl (omega arith) (line_break ls [] (held_as v.held v.fresh.here)) in
    let r = reads_notes 1 e notes (left_after [] ss) [] [] (text_as _ _ (ap (λ y. joined_lines y ++ []) (sym (append-nil (note_lines 1 e)))) u.here) in
    record {
      opening = (next i).held;
      names = z.names;
      statements = u.statements;
      tail = e;
      stop = u.stop;
      read = Plainly (WithBars y.kind z.read v.kind u.read);
      plain = λ s xs j. normal (method_of s xs (y.held j) None (z.plain j) ((u.plain ∙ first_none ss) j) e);
      here = held_as (ap (λ x. x ++ e) (left_none ss)) r;
    }

-- the keyword of primitives
primitive_keyword : IsKeywordText (codes "primitive:")
primitive_keyword = record { name = codes "primitive"; is = refl; word = refl }

-- a primitive
reads_primitive : (n : ℕ) → n ≤ 65535 → (w : World) (i : Input) (head : Notes) → Here w 0 i head (joined_lines (primitive_lines (Some n)) ++ []) → BehindRead w true i head (Some n) [] no_statements []
reads_primitive n le w i head a =
    let d = decimal n in
    let b = text_as (((codes "<primitive: " ++ d) ++ 62 ∷ []) ++ []) (60 ∷ (codes "primitive:" ++ 32 ∷ (d ++ 62 ∷ []))) (append-nil ((codes "<primitive: " ++ d) ++ 62 ∷ []) ∙ append_assoc (codes "<primitive: ") d (62 ∷ [])) (at_line 1 ((codes "<primitive: " ++ d) ++ 62 ∷ []) [] [] a) in
    let q = codes "primitive:" ++ 32 ∷ (d ++ 62 ∷ []) in
    let x = step 0 (60 ∷ []) q (less_word q refl) (λ c f e ts. refl) b in
    let y = step 0 (codes "primitive:") (32 ∷ (d ++ 62 ∷ [])) (keyword_word (codes "primitive:") (32 ∷ (d ++ 62 ∷ [])) primitive_keyword (λ f. omega arith)) (λ c f e ts. refl) (held_as x.held x.fresh.here) in
    let numeral = word_as (ap (λ k. Numeral k d) (decimal_kind n le)) (numeral_before d (62 ∷ []) (decimal_unsigned n le) (λ t i a. greater_ends t i [] a)) in
    let z = step 0 d (62 ∷ []) numeral (λ c f e ts. refl) (blank_step 32 (d ++ 62 ∷ []) refl (held_as y.held y.fresh.here)) in
    let v = step 0 (62 ∷ []) [] (greater_word [] refl) (λ c f e ts. refl) (held_as z.held z.fresh.here) in
    let stop = next (next (next (next i))) in
    let spelled : Primitive i n stop = subst (λ m. Primitive i m stop) (decimal_value n le) (OnePrimitive x.kind y.kind z.kind v.kind) in
    record { opening = []; names = []; statements = NoStatements; tail = head; stop = stop; read = Primitively spelled; plain = λ s xs. refl; here = held_as v.held v.fresh.here }

-- what stands behind a pattern
reads_behind : (kernel : Bool) (p : Option ℕ) (ts : List Text) (ss : StatementsOf Text) (e : Notes) → FitsPrimitive kernel p ts ss → AllWords ts → WellFormedStatements ss → AllNotes e → (ts ≡ [] → leading_of ss e ≡ []) → (w : World) (i : Input) (head : Notes) → statements_height ss ≤ 200 → Here w 0 i head (joined_lines (primitive_lines p ++ ((temporary_lines 1 ts ++ statement_lines 1 ss) ++ note_lines 1 e)) ++ []) → BehindRead w kernel i head p ts ss e
reads_behind kernel None [] ss e fits words g notes f w i head le a = reads_plain ss e (can_read_statements ss g) notes (f refl) w kernel i head le a
reads_behind kernel None (x ∷ ns) ss e fits words g notes f w i head le a =
    reads_barred x ns ss e words (can_read_statements ss g) notes w kernel i head le a
reads_behind kernel (Some n) ts ss e fits words g notes f w i head le a =
    let last : e ≡ [] = ap (λ x. leading_of x e) (sym fits.3) ∙ f fits.2 in
    let lines = λ (ts : List Text) (ss : StatementsOf Text) (e : Notes). joined_lines (primitive_lines (Some n) ++ ((temporary_lines 1 ts ++ statement_lines 1 ss) ++ note_lines 1 e)) ++ [] in
    let b = text_as (lines ts ss e) (lines [] no_statements []) (λ j. lines (fits.2 j) (fits.3 j) (last j)) a in
    let r = reads_primitive n fits.1 w i head b in
    subst (λ k. BehindRead w k i head (Some n) ts ss e) (sym fits.0)
    (subst (λ x. BehindRead w true i head (Some n) x ss e) (sym fits.2)
    (subst (λ x. BehindRead w true i head (Some n) [] x e) (sym fits.3)
    (subst (λ x. BehindRead w true i head (Some n) [] no_statements x) (sym last) r)))

-- the canonical text of a well-formed method spells it
pub method_again : (kernel : Bool) (m : MethodOf Text) → WellFormedMethod kernel m → SpellsMethod Second kernel (canonical_method m) m
method_again kernel m g =
    let b = begun (canonical_method m) in
    let low : sequence_height m.body ≤ 200 = g.body.height in
    let pattern = pattern_text m.selector m.arguments in
    let notes = note_lines 1 m.head in
    let rest = (notes ++ primitive_lines m.primitive) ++ sequence_lines 1 m.body in
    let a = text_as (pattern ++ lined rest) (pattern ++ (lined rest ++ [])) (ap (λ y. pattern ++ y) (sym (append-nil (lined rest)))) b.here in
    let x = reads_pattern m.selector m.arguments g.pattern b.world 0 (beginning b.world.tokens) [] (lined rest ++ []) (ends_lined rest [] refl) a in
    let c = text_as _ _ (ap (λ y. joined_lines y ++ []) (append_assoc notes (primitive_lines m.primitive) (sequence_lines 1 m.body))) (line_break rest [] (held_as x.held x.fresh.here)) in
    let d = reads_notes 1 m.head g.head [] (primitive_lines m.primitive ++ sequence_lines 1 m.body) [] c in
    let r = reads_behind kernel m.primitive m.body.temporaries m.body.statements m.body.tail g.primitive g.body.words g.body.statements g.body.notes g.normal b.world x.stop m.head low d in
    let f = finish r.here in
    let u : SpannedMethod = record { selector = m.selector; arguments = x.names; opening = r.opening; primitive = m.primitive; body = record { temporaries = r.names; statements = r.statements; tail = r.tail } } in
    let same : plain_method u ≡ m = ap (λ xs. normal (method_of m.selector xs r.opening m.primitive (names_of r.names) (plain_statements r.statements) r.tail)) x.plain ∙ r.plain m.selector m.arguments in
    let grammar : IsMethod Any kernel b.world.tokens u = record { begin = x.stop; stop = r.stop; pattern = x.read; behind = r.read; over = f.over } in
    record {
      spanned = u;
      spells = record {
        tokens = b.world.tokens;
        lexed = b.lexed f.clean;
        shallow = f.shallow;
        grammar = longest_IsMethod kernel b.world.tokens u grammar;
        sound = no_fault_Method u (subst (λ (m : MethodOf Text). WellFormedSequence m.arguments m.body) (sym same) g.body);
      };
      same = sym same;
    }

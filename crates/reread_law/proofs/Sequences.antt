-- The lines of a sequence are read as its temporaries, its statements and its comments.
use Rattle.std.proofs.Common.{◌≡◌, ℕ, zero, suc, ◌+◌, ◌≤◌, ◌⊎◌, inl, inr, true, List, [], ◌∷◌, ◌++◌, replicate, arith, refl, ap, sym, ◌∙◌, append_assoc}
use Rattle.std.specs.Prelude.{codes, flat_map}
use Rattle.std.proofs.lemmas.List.{append-nil}
use Rattle.tree_model.specs.Tree.{Notes, TreeOf, var, literal, send, cascade, assign, block, brace, return, StatementsOf, no_statements, more_statements}
use Rattle.tree_model.specs.Measure.{height, statements_height}
use Rattle.text_model.specs.Pieces.{pieces_joined}
use Rattle.text_model.specs.Expressions.{line_of, note_lines, temporary_lines, expression_text, statement_lines}
use Rattle.grammar_model.specs.Terminal.{Text}
use Rattle.grammar_model.specs.Input.{Input, from_of, next, clear}
use Rattle.grammar_model.specs.Spanned.{Declared, Return, SpannedStatements, NoStatements, MoreStatements, names_of, plain_statements}
use Rattle.grammar_model.specs.Ahead.{Any}
use Rattle.grammar_model.specs.Grammar.{Names, OneName, NoNames, Temporaries, Declares, DeclaresNone, Sequence, Sequenced, Statements, NoMore, Returned, OneStatement, Ended, Unended, UnendedReturn}
use Rattle.reread_law.specs.WellFormed.{AllNotes, AllWords, IsValue, IsStatement}
use Rattle.reread_law.proofs.Bytes.{ends, ends_all}
use Rattle.reread_law.proofs.Words.{bar_word, period_word}
use Rattle.reread_law.proofs.Steps.{World, Here, step, blank_step, note_step, held_as, text_as, fresh_clear}
use Rattle.reread_law.proofs.ReadsLiterals.{step_name, blanked}
use Rattle.reread_law.proofs.Operands.{IsReturn, CanRead}

-- lines, each behind a line feed
abbrev pub lined : List Text → Text
lined ps = flat_map (λ p. codes "\n" ++ p) ps

-- lines with a line feed between each two
abbrev pub joined_lines : List Text → Text
joined_lines ps = pieces_joined (codes "\n") ps

-- they begin with a line feed
pub ends_lined : (ps : List Text) (s : Text) → ends s ≡ true → ends (lined ps ++ s) ≡ true
ends_lined [] s h = h
ends_lined (p ∷ ps) s h = refl

-- at a line's end the next one begins
pub line_break : {w : World} {n : ℕ} {i : Input} {h : Notes} (ls : List Text) (s : Text) → Here w n i h (lined ls ++ s) → Here w n i h (joined_lines ls ++ s)
line_break [] s a = a
line_break (p ∷ ls) s a = blank_step 10 ((p ++ lined ls) ++ s) refl a

-- tabs
skip_tabs : {w : World} {n : ℕ} {i : Input} {h : Notes} (j : ℕ) (x : Text) → Here w n i h (replicate j 9 ++ x) → Here w n i h x
skip_tabs zero x a = a
skip_tabs (suc j) x a = skip_tabs j x (blank_step 9 (replicate j 9 ++ x) refl a)

-- at the beginning of a line
pub at_line : {w : World} {n : ℕ} {i : Input} {h : Notes} (k : ℕ) (t : Text) (ls : List Text) (s : Text) → Here w n i h (joined_lines (line_of k t ∷ ls) ++ s) → Here w n i h (t ++ (lined ls ++ s))
at_line k t ls s a =
    let tabs = replicate k 9 in
    skip_tabs k (t ++ (lined ls ++ s)) (text_as (((tabs ++ t) ++ lined ls) ++ s) (tabs ++ (t ++ (lined ls ++ s))) (append_assoc (tabs ++ t) (lined ls) s ∙ append_assoc tabs t (lined ls ++ s)) a)

-- comments, each on a line
pub reads_notes : {w : World} {n : ℕ} {i : Input} (k : ℕ) (c : Notes) → AllNotes c → (h : Notes) (ls : List Text) (s : Text) → Here w n i h (joined_lines (note_lines k c ++ ls) ++ s) → Here w n i (h ++ c) (joined_lines ls ++ s)
reads_notes k [] g h ls s a = held_as (sym (append-nil h)) a
reads_notes k (x ∷ c) g h ls s a =
    let y = note_step x (lined (note_lines k c ++ ls) ++ s) g.0 (at_line k x (note_lines k c ++ ls) s a) in
    held_as (append_assoc h (x ∷ []) c) (reads_notes k c g.1 (h ++ x ∷ []) ls s (line_break (note_lines k c ++ ls) s y))

-- declared names were read, before a bar
pub record NamesRead (w : World) (n : ℕ) (i : Input) (h : Notes) (ns : List Text) (s : Text) : Type 0 where
  pub names : List Declared
  pub stop : Input
  pub read : Names Any i names stop
  pub plain : names_of names ≡ ns
  pub here : Here w n stop h (124 ∷ s)

-- names and a bar begin with a blank
ends_names : (ns : List Text) (s : Text) → ends (blanked (ns ++ (124 ∷ []) ∷ []) ++ s) ≡ true
ends_names [] s = refl
ends_names (x ∷ ns) s = refl

-- declared names
pub reads_names : (ns : List Text) → AllWords ns → (w : World) (n : ℕ) (i : Input) (h : Notes) (s : Text) → Here w n i h (blanked (ns ++ (124 ∷ []) ∷ []) ++ s) → NamesRead w n i h ns s
reads_names [] g w n i h s a = record { names = []; stop = i; read = NoNames tt; plain = refl; here = blank_step 32 (124 ∷ s) refl a }
reads_names (x ∷ ns) g w n i h s a =
    let rest = blanked (ns ++ (124 ∷ []) ∷ []) in
    let b = text_as ((x ++ rest) ++ s) (x ++ (rest ++ s)) (append_assoc x rest s) (blank_step 32 ((x ++ rest) ++ s) refl a) in
    let y = step_name x (rest ++ s) g.0 (ends_all (rest ++ s) (ends_names ns s)) b in
    let z = reads_names ns g.1 w n (next i) h s (held_as y.1.held y.1.fresh.here) in
    record { names = record { name = x; from = from_of i } ∷ z.names; stop = z.stop; read = OneName {ds = z.names} y.1.kind z.read; plain = ap (λ ns. x ∷ ns) z.plain; here = z.here }

-- temporaries were read
record TemporariesRead (w : World) (n : ℕ) (i : Input) (h : Notes) (ns : List Text) (ls : List Text) (s : Text) : Type 0 where
  names : List Declared
  stop : Input
  read : Temporaries Any i names stop
  plain : names_of names ≡ ns
  here : Here w n stop h (joined_lines ls ++ s)

-- temporaries
reads_temporaries : (ns : List Text) → AllWords ns → (w : World) (n k : ℕ) (i : Input) (h : Notes) (ls : List Text) (s : Text) → Here w n i h (joined_lines (temporary_lines k ns ++ ls) ++ s) → TemporariesRead w n i h ns ls s
reads_temporaries [] g w n k i h ls s a = record { names = []; stop = i; read = DeclaresNone tt; plain = refl; here = a }
reads_temporaries (x ∷ ns) g w n k i h ls s a =
    let rest = blanked ((x ∷ ns) ++ (124 ∷ []) ∷ []) in
    let b = at_line k (124 ∷ rest) ls s a in
    let y = step n (124 ∷ []) (rest ++ (lined ls ++ s)) (bar_word (rest ++ (lined ls ++ s))) (λ c f e ts. refl) b in
    let z = reads_names (x ∷ ns) g w n (next i) h (lined ls ++ s) (held_as y.held y.fresh.here) in
    let v = step n (124 ∷ []) (lined ls ++ s) (bar_word (lined ls ++ s)) (λ c f e ts. refl) z.here in
    record { names = z.names; stop = next z.stop; read = Declares y.kind z.read v.kind; plain = z.plain; here = line_break ls s (held_as v.held v.fresh.here) }

-- statements whose texts are read as they are
abbrev pub CanReadStatements : StatementsOf Text → Type 0
CanReadStatements no_statements = Unit {0}
CanReadStatements (more_statements c t ss) = AllNotes c × CanRead t × IsStatement t ss × CanReadStatements ss

-- the last statement of a sequence was read
pub record LastRead (w : World) (n : ℕ) (i : Input) (h : Notes) (t : TreeOf Text) (s : Text) : Type 0 where
  pub statements : SpannedStatements
  pub stop : Input
  pub read : Statements Any i statements stop
  pub plain : plain_statements statements ≡ more_statements h t no_statements
  pub here : Here w n stop [] s

-- a statement is a return, and then the last, or has a value
statement_cases : (t : TreeOf Text) (ss : StatementsOf Text) → IsStatement t ss → (IsReturn t × (ss ≡ no_statements)) ⊎ IsValue t
statement_cases (return t) no_statements h = inl (tt, refl)
statement_cases (return t) (more_statements c u ss) h = absurd h
statement_cases (var n) ss h = inr h
statement_cases (literal l) ss h = inr tt
statement_cases (send r s xs) ss h = inr tt
statement_cases (cascade r ms) ss h = inr tt
statement_cases (assign n t) ss h = inr tt
statement_cases (block ps ts us e) ss h = inr tt
statement_cases (brace ts) ss h = inr tt

-- the last statement of a sequence
pub reads_last : (t : TreeOf Text) → CanRead t → IsStatement t no_statements → (w : World) (n k : ℕ) (i : Input) (h : Notes) (s : Text) → ends s ≡ true → n + height t ≤ 400 → Here w n i h (expression_text k t ++ s) → LastRead w n i h t s
reads_last t can g w n k i h s e le a = elim (statement_cases t no_statements g) [
  | inl r ↦
      let z = can.returned r.0 w n k i h s e le a in
      record {
        statements = MoreStatements z.stop.held (from_of i) (Return (from_of i) z.stop.last z.tree) NoStatements;
        stop = clear z.stop;
        read = Returned z.kind z.expression (UnendedReturn tt);
        plain = (λ j. more_statements (z.held j) (z.plain j) no_statements);
        here = (fresh_clear z.fresh).here;
      }
  | inr v ↦
      let z = can.expression v w n k i h s e le a in
      record {
        statements = MoreStatements z.stop.held (from_of i) z.tree NoStatements;
        stop = clear z.stop;
        read = OneStatement z.expression (Unended tt);
        plain = (λ j. more_statements (z.held j) (z.plain j) no_statements);
        here = (fresh_clear z.fresh).here;
      }
]

-- the statements, with these comments before those of the first
abbrev pub with_first : Notes → StatementsOf Text → StatementsOf Text
with_first h no_statements = no_statements
with_first h (more_statements c t ss) = more_statements (h ++ c) t ss

-- the comments that are left where there is no statement
abbrev pub left_after : Notes → StatementsOf Text → Notes
left_after h no_statements = h
left_after h (more_statements c t ss) = []

-- no comments more
pub first_none : (ss : StatementsOf Text) → with_first [] ss ≡ ss
first_none no_statements = refl
first_none (more_statements c t ss) = refl

-- no comments are left where there were none
pub left_none : (ss : StatementsOf Text) → left_after [] ss ≡ []
left_none no_statements = refl
left_none (more_statements c t ss) = refl

-- statements were read
pub record StatementsRead (w : World) (n : ℕ) (i : Input) (h : Notes) (ss : StatementsOf Text) (ls : List Text) (s : Text) : Type 0 where
  pub statements : SpannedStatements
  pub stop : Input
  pub read : Statements Any i statements stop
  pub plain : plain_statements statements ≡ with_first h ss
  pub here : Here w n stop (left_after h ss) (joined_lines ls ++ s)

-- a period before a line feed
period_ends : (k : ℕ) (c : Notes) (t : TreeOf Text) (ss : StatementsOf Text) (ls : List Text) (s : Text) → ends (46 ∷ (lined (statement_lines k (more_statements c t ss) ++ ls) ++ s)) ≡ true
period_ends k [] t ss ls s = refl
period_ends k (x ∷ c) t ss ls s = refl

-- statements
pub reads_statements : (ss : StatementsOf Text) → CanReadStatements ss → (w : World) (n k : ℕ) (i : Input) (h : Notes) (ls : List Text) (s : Text) → ends s ≡ true → n + statements_height ss ≤ 400 → Here w n i h (joined_lines (statement_lines k ss ++ ls) ++ s) → StatementsRead w n i h ss ls s
reads_statements no_statements can w n k i h ls s e le a = record { statements = NoStatements; stop = i; read = NoMore tt; plain = refl; here = a }
reads_statements (more_statements c t no_statements) can w n k i h ls s e le a =
    let u = expression_text k t in
    let line = line_of k (u ++ []) in
    let b = reads_notes k c can.0 h (line ∷ ls) s (text_as _ _ (ap (λ y. joined_lines y ++ s) (append_assoc (note_lines k c) (line ∷ []) ls)) a) in
    let d = text_as _ (u ++ (lined ls ++ s)) (ap (λ y. y ++ (lined ls ++ s)) (append-nil u)) (at_line k (u ++ []) ls s b) in
    let z = reads_last t can.1 can.2 w n k i (h ++ c) (lined ls ++ s) (ends_lined ls s e) (omega arith) d in
    record { statements = z.statements; stop = z.stop; read = z.read; plain = z.plain; here = line_break ls s z.here }
reads_statements (more_statements c t (more_statements d v ss)) can w n k i h ls s e le a =
    let rest : StatementsOf Text = more_statements d v ss in
    let u = expression_text k t in
    let line = line_of k (u ++ 46 ∷ []) in
    let more = statement_lines k rest in
    let b = reads_notes k c can.0 h (line ∷ (more ++ ls)) s (text_as _ _ (ap (λ y. joined_lines y ++ s) (append_assoc (note_lines k c) (line ∷ more) ls)) a) in
    let after = lined (more ++ ls) ++ s in
    let x = text_as _ (u ++ 46 ∷ after) (append_assoc u (46 ∷ []) after) (at_line k (u ++ 46 ∷ []) (more ++ ls) s b) in
    let val : IsValue t = elim (statement_cases t rest can.2) [
      | inl r ↦ let f : more_statements d v ss ≡ no_statements = r.1 in cc
      | inr g ↦ g
    ] in
    let y = can.1.expression val w n k i (h ++ c) (46 ∷ after) (period_ends k d v ss ls s) (omega arith) x in
    let p = step n (46 ∷ []) after (period_word after) (λ c f e ts. refl) (held_as y.held y.fresh.here) in
    let z = reads_statements (more_statements d v ss) can.3 w n k (clear (next y.stop)) [] ls s e (omega arith) (line_break (more ++ ls) s (fresh_clear p.fresh).here) in
    record {
      statements = MoreStatements (next y.stop).held (from_of i) y.tree z.statements;
      stop = z.stop;
      read = OneStatement {m = y.stop} {j = z.stop} {t = y.tree} {ss = z.statements} y.expression (Ended p.kind z.read);
      plain = (λ j. more_statements (p.held j) (y.plain j) ((z.plain ∙ first_none rest) j));
      here = held_as (left_none rest) z.here;
    }

-- a sequence was read
pub record SequenceRead (w : World) (n : ℕ) (i : Input) (h : Notes) (ds : List Text) (ss : StatementsOf Text) (e : Notes) (s : Text) : Type 0 where
  pub names : List Declared
  pub statements : SpannedStatements
  pub stop : Input
  pub read : Sequence Any i names statements stop
  pub plain_names : names_of names ≡ ds
  pub plain : plain_statements statements ≡ with_first h ss
  pub here : Here w n stop (left_after h ss ++ e) s

-- a sequence
pub reads_sequence : (ds : List Text) (ss : StatementsOf Text) (e : Notes) → AllWords ds → CanReadStatements ss → AllNotes e → (w : World) (n k : ℕ) (i : Input) (h : Notes) (s : Text) → ends s ≡ true → n + statements_height ss ≤ 400 → Here w n i h (joined_lines ((temporary_lines k ds ++ statement_lines k ss) ++ note_lines k e) ++ s) → SequenceRead w n i h ds ss e s
reads_sequence ds ss e words can notes w n k i h s f le a =
    let b = text_as _ _ (ap (λ y. joined_lines y ++ s) (append_assoc (temporary_lines k ds) (statement_lines k ss) (note_lines k e))) a in
    let x = reads_temporaries ds words w n k i h (statement_lines k ss ++ note_lines k e) s b in
    let y = reads_statements ss can w n k x.stop h (note_lines k e) s f le x.here in
    let z = reads_notes k e notes (left_after h ss) [] s (text_as _ _ (ap (λ y. joined_lines y ++ s) (sym (append-nil (note_lines k e)))) y.here) in
    record { names = x.names; statements = y.statements; stop = y.stop; read = Sequenced x.read y.read; plain_names = x.plain; plain = y.plain; here = z }

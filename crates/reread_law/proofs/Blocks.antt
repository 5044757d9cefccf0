-- The canonical text of a block is read as that block.
use Rattle.std.proofs.Common.{◌≡◌, ℕ, ◌+◌, ◌≤◌, Bool, true, false, ◌&&◌, List, [], ◌∷◌, ◌++◌, get_or, arith, refl, ap, sym, subst, ◌∙◌, append_assoc}
use Rattle.std.specs.Prelude.{codes, flat_map, if◌then◌else◌}
use Rattle.std.proofs.lemmas.Bool.{and_parts, false≢true}
use Rattle.token_model.specs.Bytes.{is_letter}
use Rattle.token_model.proofs.Leads.{other_byte}
use Rattle.tree_model.specs.Tree.{Notes, block, StatementsOf, no_statements, more_statements}
use Rattle.tree_model.specs.Measure.{statements_height}
use Rattle.text_model.specs.Flat.{is_none_in, is_flat, is_flat_row}
use Rattle.text_model.specs.Expressions.{note_lines, temporary_lines, statement_lines, row_text, parameters_text, blank_behind, flat_block, tall_block}
use Rattle.grammar_model.specs.Terminal.{Text, BlockStart, BlockEnd, Colon}
use Rattle.grammar_model.specs.Input.{Input, kind_of, from_of, next, clear, back}
use Rattle.grammar_model.specs.Spanned.{Declared, Block, SpannedStatements, NoStatements, names_of, plain_statements}
use Rattle.grammar_model.specs.Chain.{Alone}
use Rattle.grammar_model.specs.Ahead.{Any}
use Rattle.grammar_model.specs.Grammar.{Parameters, OneParameter, NoParameters, DeclaresNone, BlockBody, WithoutParameters, WithParameters, BlockOperand, NoUnaries, Sequenced, NoMore}
use Rattle.reread_law.specs.WellFormed.{AllNotes, AllWords}
use Rattle.reread_law.proofs.Bytes.{ends, ends_all}
use Rattle.reread_law.proofs.Words.{bar_word, colon_word, block_open_word, block_close_word}
use Rattle.reread_law.proofs.Quoted.{word_letter}
use Rattle.reread_law.proofs.Steps.{World, Here, step, blank_step, held_as, text_as, fresh_clear, fresh_back, counts_open, counts_close}
use Rattle.reread_law.proofs.ReadsLiterals.{step_name}
use Rattle.reread_law.proofs.Operands.{UnaryRead, Reads, CanRead, can_unary}
use Rattle.reread_law.proofs.Sequences.{lined, line_break, CanReadStatements, reads_last, left_after, first_none, left_none, SequenceRead, reads_sequence}

-- parameters, each behind a colon and before a blank
abbrev colons : List Text → Text
colons ps = flat_map (λ q. codes ":" ++ q ++ codes " ") ps

-- parameters were read, before a bar
record ParametersRead (w : World) (n : ℕ) (i : Input) (h : Notes) (ps : List Text) (s : Text) : Type 0 where
  names : List Declared
  stop : Input
  read : Parameters Any i names stop
  plain : names_of names ≡ ps
  here : Here w n stop h (124 ∷ s)

-- one parameter before others
colons_first : (q r s : Text) → ((58 ∷ q ++ 32 ∷ []) ++ r) ++ s ≡ 58 ∷ (q ++ 32 ∷ (r ++ s))
colons_first q r s = ap (λ y. y ++ s) (append_assoc (58 ∷ q) (32 ∷ []) r) ∙ append_assoc (58 ∷ q) (32 ∷ r) s

-- parameters
reads_parameters : (ps : List Text) → AllWords ps → (w : World) (n : ℕ) (i : Input) (h : Notes) (s : Text) → Here w n i h (colons ps ++ 124 ∷ s) → ParametersRead w n i h ps s
reads_parameters [] g w n i h s a = record { names = []; stop = i; read = NoParameters tt; plain = refl; here = a }
reads_parameters (q ∷ ps) g w n i h s a =
    let rest = colons ps ++ 124 ∷ s in
    let b = text_as _ (58 ∷ (q ++ 32 ∷ rest)) (colons_first q (colons ps) (124 ∷ s)) a in
    let letter = word_letter q (32 ∷ rest) g.0 in
    let x = step n (58 ∷ []) (q ++ 32 ∷ rest) (colon_word (q ++ 32 ∷ rest) (other_byte is_letter (get_or (q ++ 32 ∷ rest) 0 0) 61 letter refl)) (λ c f e ts. refl) b in
    let y = step_name q (32 ∷ rest) g.0 (ends_all (32 ∷ rest) refl) (held_as x.held x.fresh.here) in
    let z = reads_parameters ps g.1 w n (next (next i)) h s (blank_step 32 rest refl (held_as y.1.held y.1.fresh.here)) in
    record { names = record { name = q; from = from_of (next i) } ∷ z.names; stop = z.stop; read = OneParameter {ds = z.names} x.kind y.1.kind z.read; plain = ap (λ ns. q ∷ ns) z.plain; here = z.here }

-- parameters begin with a colon
parameters_begin : {i j : Input} {ds : List Declared} (p : Text) (ps : List Text) → Parameters Any i ds j → names_of ds ≡ p ∷ ps → kind_of i ≡ Colon
parameters_begin p ps (OneParameter e f d) is = e
parameters_begin p ps (NoParameters n) is = cc

-- what stands between a block's brackets was read
record BodyRead (w : World) (n : ℕ) (i : Input) (ps ds : List Text) (ss : StatementsOf Text) (e : Notes) (s : Text) : Type 0 where
  parameters : List Declared
  names : List Declared
  statements : SpannedStatements
  stop : Input
  read : BlockBody Any i parameters names statements stop
  plain_parameters : names_of parameters ≡ ps
  plain_names : names_of names ≡ ds
  plain : plain_statements statements ≡ ss
  here : Here w n stop e s

-- a text that is read as a sequence in a block, where no comments are held at first
abbrev ReadsInside : World → ℕ → List Text → StatementsOf Text → Notes → Text → Text → Type 0
ReadsInside w n ds ss e y s = (i : Input) → Here w n i [] y → SequenceRead w n i [] ds ss e s

-- where no comments are held at first, only those at the end are left
inside_left : {w : World} {n : ℕ} {i : Input} (ss : StatementsOf Text) (e : Notes) {s : Text} → Here w n i (left_after [] ss ++ e) s → Here w n i e s
inside_left ss e a = held_as (ap (λ x. x ++ e) (left_none ss)) a

-- parameters and a sequence behind them
reads_body : (ps : List Text) → AllWords ps → (w : World) (n : ℕ) (i : Input) (ds : List Text) (ss : StatementsOf Text) (e : Notes) (y s : Text) → ReadsInside w n ds ss e y s → Here w n i [] (parameters_text ps ++ y) → BodyRead w n i ps ds ss e s
reads_body [] g w n i ds ss e y s reads a =
    let z = reads i a in
    record { parameters = []; names = z.names; statements = z.statements; stop = z.stop; read = WithoutParameters tt z.read; plain_parameters = refl; plain_names = z.plain_names; plain = z.plain ∙ first_none ss; here = inside_left ss e z.here }
reads_body (p ∷ ps) g w n i ds ss e y s reads a =
    let b = text_as _ (colons (p ∷ ps) ++ 124 ∷ y) (append_assoc (colons (p ∷ ps)) (124 ∷ []) y) a in
    let x = reads_parameters (p ∷ ps) g w n i [] y b in
    let v = step n (124 ∷ []) y (bar_word y) (λ c f e ts. refl) x.here in
    let z = reads (next x.stop) (held_as v.held v.fresh.here) in
    record {
      parameters = x.names;
      names = z.names;
      statements = z.statements;
      stop = z.stop;
      read = WithParameters (parameters_begin p ps x.read x.plain) x.read v.kind z.read;
      plain_parameters = x.plain;
      plain_names = z.plain_names;
      plain = z.plain ∙ first_none ss;
      here = inside_left ss e z.here;
    }

-- a block from its opening bracket on
reads_brackets : (ps ds : List Text) (ss : StatementsOf Text) (e : Notes) → AllWords ps → (w : World) (n : ℕ) (i : Input) (h : Notes) (y q : Text) → n + 1 ≤ 400 → ReadsInside w (n + 1) ds ss e y (93 ∷ q) → Here w n i h (91 ∷ (parameters_text ps ++ y)) → UnaryRead w n i h (block ps ds ss e) q
reads_brackets ps ds ss e g w n i h y q le reads a =
    let x = step (n + 1) (91 ∷ []) (parameters_text ps ++ y) (block_open_word (parameters_text ps ++ y)) (counts_open n BlockStart le) a in
    let b = reads_body ps g w (n + 1) (clear (next i)) ds ss e y (93 ∷ q) reads (fresh_clear x.fresh).here in
    let z = step n (93 ∷ []) q (block_close_word q) (counts_close n BlockEnd) b.here in
    let tree = Block (from_of i) (next b.stop).last b.parameters b.names b.statements (next b.stop).held in
    record {
      first = Alone tree;
      middle = back (next i) (next b.stop);
      last = Alone tree;
      stop = back (next i) (next b.stop);
      operand = BlockOperand x.kind b.read z.kind;
      unaries = NoUnaries tt;
      plain = (λ j. block (b.plain_parameters j) (b.plain_names j) (b.plain j) (z.held j));
      value = λ v. tt;
      held = x.held;
      fresh = fresh_back (next i) z.fresh;
    }

-- a block with its lines on lines of their own
reads_tall : (ps ds : List Text) (ss : StatementsOf Text) (e : Notes) → AllWords ps → AllWords ds → CanReadStatements ss → AllNotes e → (w : World) (n k : ℕ) (i : Input) (h : Notes) (q : Text) → n + (statements_height ss + 1) ≤ 400 → Here w n i h (tall_block ps ((temporary_lines (k + 1) ds ++ statement_lines (k + 1) ss) ++ note_lines (k + 1) e) ++ q) → UnaryRead w n i h (block ps ds ss e) q
reads_tall ps ds ss e g words can notes w n k i h q le a =
    let p = parameters_text ps in
    let ls = (temporary_lines (k + 1) ds ++ statement_lines (k + 1) ss) ++ note_lines (k + 1) e in
    let f = append_assoc ((91 ∷ p) ++ lined ls) (93 ∷ []) q ∙ append_assoc (91 ∷ p) (lined ls) (93 ∷ q) in
    reads_brackets ps ds ss e g w n i h (lined ls ++ 93 ∷ q) q (omega arith)
    (λ i b. reads_sequence ds ss e words can notes w (n + 1) (k + 1) i [] (93 ∷ q) refl (omega arith) (line_break ls (93 ∷ q) b))
    (text_as ((((91 ∷ p) ++ lined ls) ++ 93 ∷ []) ++ q) (91 ∷ (p ++ (lined ls ++ 93 ∷ q))) f a)

-- nothing in a list
none_in : {A : Type 0} (xs : List A) → is_none_in xs ≡ true → xs ≡ []
none_in [] h = refl
none_in (x ∷ xs) h = absurd (false≢true h)

-- the statement of a flat block
reads_row : (ss : StatementsOf Text) → is_flat_row ss ≡ true → CanReadStatements ss → (w : World) (n k : ℕ) (i : Input) (s : Text) → ends s ≡ true → n + statements_height ss ≤ 400 → Here w n i [] (row_text k ss ++ s) → SequenceRead w n i [] [] ss [] s
reads_row no_statements flat can w n k i s e le a =
    record { names = []; statements = NoStatements; stop = i; read = Sequenced (DeclaresNone tt) (NoMore tt); plain_names = refl; plain = refl; here = a }
reads_row (more_statements c t no_statements) flat can w n k i s e le a =
    let z = reads_last t can.1 can.2 w n k i [] s e (omega arith) a in
    record { names = []; statements = z.statements; stop = z.stop; read = Sequenced (DeclaresNone tt) z.read; plain_names = refl; plain = z.plain ∙ ap (λ d. more_statements d t no_statements) (sym (none_in c (and_parts (is_none_in c) (is_flat t) flat).0)); here = z.here }
reads_row (more_statements c t (more_statements d u ss)) flat can w n k i s e le a = absurd (false≢true flat)

-- the blank behind parameters
skip_behind : {w : World} {n : ℕ} {i : Input} {h : Notes} (ps : List Text) (s : Text) → Here w n i h (blank_behind ps ++ s) → Here w n i h s
skip_behind [] s a = a
skip_behind (p ∷ ps) s a = blank_step 32 s refl a

-- a flat block
reads_flat : (ps : List Text) (ss : StatementsOf Text) → AllWords ps → is_flat_row ss ≡ true → CanReadStatements ss → (w : World) (n k : ℕ) (i : Input) (h : Notes) (q : Text) → n + (statements_height ss + 1) ≤ 400 → Here w n i h (flat_block ps (row_text (k + 1) ss) ++ q) → UnaryRead w n i h (block ps [] ss []) q
reads_flat ps ss g flat can w n k i h q le a =
    let p = parameters_text ps in
    let b = blank_behind ps in
    let row = row_text (k + 1) ss in
    let f = append_assoc (((91 ∷ p) ++ b) ++ row) (93 ∷ []) q ∙ append_assoc ((91 ∷ p) ++ b) row (93 ∷ q) ∙ append_assoc (91 ∷ p) b (row ++ 93 ∷ q) in
    reads_brackets ps [] ss [] g w n i h (b ++ (row ++ 93 ∷ q)) q (omega arith)
    (λ i c. reads_row ss flat can w (n + 1) (k + 1) i (93 ∷ q) refl (omega arith) (skip_behind ps (row ++ 93 ∷ q) c))
    (text_as (((((91 ∷ p) ++ b) ++ row) ++ 93 ∷ []) ++ q) (91 ∷ (p ++ (b ++ (row ++ 93 ∷ q)))) f a)

-- a block
reads_block : (ps ds : List Text) (ss : StatementsOf Text) (e : Notes) → AllWords ps → AllWords ds → CanReadStatements ss → AllNotes e → Reads UnaryRead (block ps ds ss e)
reads_block ps ds ss e g words can notes w n k i h q f le a = go (is_flat (block ps ds ss e)) refl a
  where
    go : (b : Bool) → is_flat (block ps ds ss e) ≡ b → Here w n i h ((if b then flat_block ps (row_text (k + 1) ss) else tall_block ps ((temporary_lines (k + 1) ds ++ statement_lines (k + 1) ss) ++ note_lines (k + 1) e)) ++ q) → UnaryRead w n i h (block ps ds ss e) q
    go true x a =
        let p = and_parts (is_none_in ds && is_none_in e) (is_flat_row ss) x in
        let r = and_parts (is_none_in ds) (is_none_in e) p.0 in
        subst (λ ds. UnaryRead w n i h (block ps ds ss e) q) (sym (none_in ds r.0)) (subst (λ e. UnaryRead w n i h (block ps [] ss e) q) (sym (none_in e r.1)) (reads_flat ps ss g p.1 can w n k i h q le a))
    go false x a = reads_tall ps ds ss e g words can notes w n k i h q le a

-- a block is read as it is
pub can_block : (ps ds : List Text) (ss : StatementsOf Text) (e : Notes) → AllWords ps → AllWords ds → CanReadStatements ss → AllNotes e → CanRead (block ps ds ss e)
can_block ps ds ss e g words can notes = can_unary (block ps ds ss e) (λ x. x) (reads_block ps ds ss e g words can notes)

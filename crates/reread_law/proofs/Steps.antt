-- What is left to read, and the bytes of the text from there on, step by step.
use Rattle.std.proofs.Common.{◌≡◌, ◌≢◌, ℕ, ◌+◌, ◌-◌, ◌≤◌, inl, inr, Bool, true, false, List, [], ◌∷◌, ◌++◌, length, get_or, Option, Some, None, arith, refl, ap, sym, subst, ◌∙◌, append_assoc}
use Rattle.std.specs.Prelude.{slice_range, ◌==◌}
use Rattle.std.specs.Option.{option_map_or}
use Rattle.std.proofs.lemmas.Bool.{and_parts, cases_lt, eqb-true, eq-eqb, ne_eqb, lt-leb, false≢true}
use Rattle.std.proofs.lemmas.List.{append-nil}
use Rattle.token_model.specs.Bytes.{is_blank, is_digit, is_second, Passes, Fails, IsRun}
use Rattle.token_model.specs.Tokens.{IsToken, IsNumeral}
use Rattle.token_model.specs.TokenLists.{Piece, IsNext, HasTokens, Ended, Stopped, Further}
use Rattle.token_model.specs.declared.kind.Dialect.TheVariants.{Second}
use Rattle.token_model.specs.declared.kind.TokenKind.{TokenKind}
use Rattle.token_model.specs.declared.kind.TokenKind.TheVariants as kinds
use Rattle.token_model.specs.declared.fault.LexFault.{LexFault}
use Rattle.token_model.proofs.Leads.{other_byte}
use Rattle.token_model.proofs.Exist.{IsRun-none}
use Rattle.token_model.proofs.Lists.{IsNext-same, next_or_fault}
use Rattle.tree_model.specs.Tree.{Notes}
use Rattle.grammar_model.specs.Terminal.{Text, Terminal, Binary, Sign, Numeral, Opening, Opens, Closing, Closes, TextEnd}
use Rattle.grammar_model.specs.Input.{Lexeme, lex, Input, kind_of, next, clear, back, first_kind, first_notes, others}
use Rattle.grammar_model.specs.Lexemes.{terminal_of, is_numeral, begins_numeral, lexemes_of, numeral_of}
use Rattle.grammar_model.specs.Whole.{IsOver}
use Rattle.grammar_model.specs.Checks.{first_deep}
use Rattle.reread_law.specs.WellFormed.{IsUnsigned, IsNote}
use Rattle.reread_law.proofs.Bytes.{At, behind, first_at, length_at, range_at, Ends}
use Rattle.reread_law.proofs.Words.{IsWordOf, minus_at, numeral_word, note_at, note_no_blank}

-- a text, its first lexical fault, and all its tokens as the grammar sees them
pub record World : Type 0 where
  pub text : Text
  pub fault : Option LexFault
  pub tokens : List Lexeme

-- The tokens that are left are those of the text from here on. So many brackets stand open, and so many comments were passed that belong to nothing yet.
pub record Here (w : World) (n : ℕ) (i : Input) (h : Notes) (s : Text) : Type 0 where
  pub at : ℕ
  pub place : At w.text at s
  pub pieces : List Piece
  pub pending : Notes
  pub read : HasTokens Second w.text at pieces w.fault
  pub same : i.rest ≡ lexemes_of w.text pending pieces
  pub total : h ≡ i.held ++ pending
  pub depth : first_deep n i.rest ≡ first_deep 0 w.tokens

-- the same right behind a token: each comment that was passed is held
pub record Fresh (w : World) (n : ℕ) (i : Input) (s : Text) : Type 0 where
  pub here : Here w n i i.held s
  pub none : here.pending ≡ []

-- a run behind its first byte
run_skip : (p : ℕ → Bool) (t : Text) (i j : ℕ) → Passes p t i → IsRun p t i j → IsRun p t (i + 1) j
run_skip p t i j h r = record {
  order = elim (cases_lt i j) [
    | inl lt ↦ omega arith
    | inr le ↦ let e : j ≡ i = omega (arith, r.order) in absurd (false≢true (sym (subst (Fails p t) e r.stops) ∙ h))
  ];
  all = λ k a b. r.all k (omega arith) b;
  stops = r.stops;
}

-- tokens behind one blank
skip_blank : (t : Text) (at : ℕ) (ps : List Piece) (f : Option LexFault) → is_blank (get_or t at 0) ≡ true → HasTokens Second t at ps f → HasTokens Second t (at + 1) ps f
skip_blank t at ps f b (Ended here p n e) = Ended (here + 1) p (record { blanks = run_skip is_blank t here p.from b n.blanks; token = n.token }) e
skip_blank t at ps f b (Stopped here x n) = Stopped (here + 1) x (record { from = n.from; blanks = run_skip is_blank t here n.from b n.blanks; fails = n.fails })
skip_blank t at ps f b (Further here p qs g n e r) = Further (here + 1) p qs g (record { blanks = run_skip is_blank t here p.from b n.blanks; token = n.token }) e r

-- one blank
pub blank_step : {w : World} {n : ℕ} {i : Input} {h : Notes} (b : ℕ) (s : Text) → is_blank b ≡ true → Here w n i h (b ∷ s) → Here w n i h s
blank_step {w} {n} {i} {h} b s e x = record {
  at = x.at + 1;
  place = behind (b ∷ []) s x.place;
  pieces = x.pieces;
  pending = x.pending;
  read = skip_blank w.text x.at x.pieces w.fault (ap is_blank (first_at x.place) ∙ e) x.read;
  same = x.same;
  total = x.total;
  depth = x.depth;
}

-- the token at a place is the next one
record Taken (t : Text) (p : Piece) (ps : List Piece) (f : Option LexFault) : Type 0 where
  rest : List Piece
  is : ps ≡ p ∷ rest
  read : HasTokens Second t p.to rest f

-- the first of the tokens is taken
take_piece : (t : Text) (at : ℕ) (p : Piece) (ps : List Piece) (f : Option LexFault) → IsNext Second t at p → p.kind ≢ kinds.End → HasTokens Second t at ps f → Taken t p ps f
take_piece t at p ps f x inner (Ended here q n e) = absurd (inner (ap (λ (r : Piece). r.kind) (IsNext-same Second t here p q x n) ∙ e))
take_piece t at p ps f x inner (Stopped here g n) = absurd (next_or_fault Second t here p g x n)
take_piece t at p ps f x inner (Further here q qs g n e r) =
    let same = IsNext-same Second t here q p n x in
    record { rest = qs; is = ap (λ (r : Piece). r ∷ qs) same; read = subst (λ (r : Piece). HasTokens Second t r.to qs g) same r }

-- a numeral begins with a digit
numeral_kind : (k : TokenKind) → is_numeral k ≡ true → k ≡ kinds.Numeral
numeral_kind kinds.Numeral e = refl
numeral_kind k e = absurd (false≢true e)

-- where a numeral begins a digit stands
numeral_digit : (t : Text) (at : ℕ) (ps : List Piece) (f : Option LexFault) → HasTokens Second t at ps f → begins_numeral at ps ≡ true → is_digit (get_or t at 0) ≡ true
numeral_digit t at ps f (Ended here p n e) h =
    let parts = and_parts (is_numeral p.kind) (p.from == here) h in let k = numeral_kind p.kind parts.0 in cc
numeral_digit t at ps f (Stopped here g n) h = absurd (false≢true h)
numeral_digit t at ps f (Further here p qs g n e r) h =
    let parts = and_parts (is_numeral p.kind) (p.from == here) h in
    let token : IsToken Second kinds.Numeral t p.from p.to = subst (λ k. IsToken Second k t p.from p.to) (numeral_kind p.kind parts.0) n.token in
    subst (λ k. is_digit (get_or t k 0) ≡ true) (eqb-true p.from here parts.1) token.digits.0

-- one token was read: what it is, the comments that are held then, and where it leads
pub record Stepped (w : World) (m : ℕ) (i : Input) (h : Notes) (k : Terminal) (s : Text) : Type 0 where
  pub kind : kind_of i ≡ k
  pub held : (next i).held ≡ h
  pub fresh : Fresh w m (next i) s

-- how a token changes the number of open brackets
abbrev pub Counts : ℕ → ℕ → Terminal → Type 0
Counts n m k = (c : Notes) (f e : ℕ) (ts : List Lexeme) → first_deep n (lex c f e k ∷ ts) ≡ first_deep m ts

-- the next token
next_piece : (t : Text) (at : ℕ) (kind : TokenKind) (x s : Text) → At t at (x ++ s) → is_blank (get_or (x ++ s) 0 0) ≡ false → IsToken Second kind t at (at + length x) → IsNext Second t at (record { kind = kind; from = at; to = at + length x })
next_piece t at kind x s a begins token = record { blanks = IsRun-none is_blank t at (ap is_blank (first_at a) ∙ begins); token = token }

-- one token is read
step_seen : {w : World} {n : ℕ} {i : Input} {h : Notes} (m : ℕ) (kind : TokenKind) (k : Terminal) (x s : Text) → (a : Here w n i h (x ++ s)) → is_blank (get_or (x ++ s) 0 0) ≡ false → kind ≢ kinds.End → IsToken Second kind w.text a.at (a.at + length x) →
    ((ps : List Piece) → HasTokens Second w.text (a.at + length x) ps w.fault → terminal_of kind x (begins_numeral (a.at + length x) ps) ≡ Some k) → Counts n m k → Stepped w m i h k s
step_seen {w} {n} {i} {h} m kind k x s a begins inner token seen counts =
    let to = a.at + length x in
    let p : Piece = record { kind = kind; from = a.at; to = to } in
    let taken = take_piece w.text a.at p a.pieces w.fault (next_piece w.text a.at kind x s a.place begins token) inner a.read in
    let ls = lexemes_of w.text [] taken.rest in
    let b = begins_numeral to taken.rest in
    let later = lexemes_of w.text (a.pending ++ slice_range w.text a.at to ∷ []) taken.rest in
    let whole : i.rest ≡ option_map_or (λ k. lex a.pending a.at to k ∷ ls) (terminal_of kind (slice_range w.text a.at to) b) later = a.same ∙ ap (lexemes_of w.text a.pending) taken.is in
    let is : terminal_of kind (slice_range w.text a.at to) b ≡ Some k = ap (λ y. terminal_of kind y b) (range_at x s a.place) ∙ seen taken.rest taken.read in
    let rest : i.rest ≡ lex a.pending a.at to k ∷ ls = whole ∙ ap (λ o. option_map_or (λ k. lex a.pending a.at to k ∷ ls) o later) is in
    record {
      kind = ap first_kind rest;
      held = ap (λ ts. i.held ++ first_notes ts) rest ∙ sym a.total;
      fresh = record {
        here = record {
          at = to;
          place = behind x s a.place;
          pieces = taken.rest;
          pending = [];
          read = taken.read;
          same = ap others rest;
          total = sym (append-nil (next i).held);
          depth = ap (λ ts. first_deep m (others ts)) rest ∙ sym (counts a.pending a.at to ls) ∙ ap (first_deep n) (sym rest) ∙ a.depth;
        };
        none = refl;
      };
    }

-- one word is read
pub step : {w : World} {n : ℕ} {i : Input} {h : Notes} (m : ℕ) {kind : TokenKind} {k : Terminal} (x s : Text) → IsWordOf kind k x s → Counts n m k → Here w n i h (x ++ s) → Stepped w m i h k s
step {w} {n} {i} {h} m {kind} {k} x s word counts a =
    step_seen m kind k x s a word.begins word.inner (word.token w.text a.at a.place)
    (λ ps r. word.seen (begins_numeral (a.at + length x) ps) (λ b. sym (ap is_digit (first_at (behind x s a.place))) ∙ numeral_digit w.text (a.at + length x) ps w.fault r b)) counts

-- no digit is a second character of a binary selector
no_second : (b : ℕ) → is_digit b ≡ true → is_second b ≡ false
no_second b d = rw (other 43 refl, other 45 refl, other 42 refl, other 47 refl, other 92 refl, other 126 refl, other 60 refl, other 62 refl, other 61 refl, other 64 refl, other 37 refl, other 38 refl, other 63 refl, other 44 refl) refl
  where
    other : (n : ℕ) → is_digit n ≡ false → (b == n) ≡ false
    other n e = ne_eqb b n (other_byte is_digit b n d e)

-- a minus and a numeral are read
pub record SteppedTwice (w : World) (n : ℕ) (i : Input) (h : Notes) (k l : Terminal) (s : Text) : Type 0 where
  pub first : kind_of i ≡ k
  pub second : kind_of (next i) ≡ l
  pub held : (next (next i)).held ≡ h
  pub fresh : Fresh w n (next (next i)) s

-- a sign and its numeral
pub step_minus : {w : World} {n : ℕ} {i : Input} {h : Notes} (x s : Text) → IsUnsigned x → Ends s → Here w n i h (45 ∷ (x ++ s)) → SteppedTwice w n i h (Binary Sign (45 ∷ [])) (Numeral (numeral_of x) x) s
step_minus {w} {n} {i} {h} x s u e a =
    let word = numeral_word x s u e in
    let after = behind (45 ∷ []) (x ++ s) a.place in
    let token : IsNumeral w.text (a.at + 1) (a.at + 1 + length x) = word.token w.text (a.at + 1) after in
    let digit : is_digit (get_or (x ++ s) 0 0) ≡ true = ap is_digit (sym (first_at after)) ∙ token.digits.0 in
    let one : Stepped w n i h (Binary Sign (45 ∷ [])) (x ++ s) =
    step_seen n kinds.Binary (Binary Sign (45 ∷ [])) (45 ∷ []) (x ++ s) a refl (λ is. cc) (minus_at (x ++ s) (no_second (get_or (x ++ s) 0 0) digit) a.place)
    (λ ps r. ap (λ b. terminal_of kinds.Binary (45 ∷ []) b) (flag ps r word.begins token after)) (λ c f e ts. refl)
    in
    let two = step n x s word (λ c f e ts. refl) one.fresh.here in
    record { first = one.kind; second = two.kind; held = two.held ∙ one.held; fresh = two.fresh }
  where
    flag : (ps : List Piece) → HasTokens Second w.text (a.at + 1) ps w.fault → is_blank (get_or (x ++ s) 0 0) ≡ false → IsNumeral w.text (a.at + 1) (a.at + 1 + length x) → At w.text (a.at + 1) (x ++ s) → begins_numeral (a.at + 1) ps ≡ true
    flag ps r begins token after =
        let p : Piece = record { kind = kinds.Numeral; from = a.at + 1; to = a.at + 1 + length x } in
        let taken = take_piece w.text (a.at + 1) p ps w.fault (next_piece w.text (a.at + 1) kinds.Numeral x s after begins token) (λ is. cc) r in
        ap (begins_numeral (a.at + 1)) taken.is ∙ eq-eqb (a.at + 1) (a.at + 1) refl

-- one comment is passed
pub note_step : {w : World} {n : ℕ} {i : Input} {h : Notes} (c s : Text) → IsNote c → Here w n i h (c ++ s) → Here w n i (h ++ c ∷ []) s
note_step {w} {n} {i} {h} c s g a =
    let to = a.at + length c in
    let p : Piece = record { kind = kinds.Comment; from = a.at; to = to } in
    let taken = take_piece w.text a.at p a.pieces w.fault (next_piece w.text a.at kinds.Comment c s a.place (note_no_blank c s g) (note_at c s g a.place)) (λ is. cc) a.read in
    record {
      at = to;
      place = behind c s a.place;
      pieces = taken.rest;
      pending = a.pending ++ c ∷ [];
      read = taken.read;
      same = a.same ∙ ap (lexemes_of w.text a.pending) taken.is ∙ ap (λ y. lexemes_of w.text (a.pending ++ y ∷ []) taken.rest) (range_at c s a.place);
      total = ap (λ x. x ++ c ∷ []) a.total ∙ append_assoc i.held a.pending (c ∷ []);
      depth = a.depth;
    }

-- the end of the text, without any fault
pub record Finished (w : World) (i : Input) (h : Notes) : Type 0 where
  pub over : IsOver i h
  pub clean : w.fault ≡ None
  pub shallow : first_deep 0 w.tokens ≡ None

-- the last token
last_piece : (t : Text) (at : ℕ) (ps : List Piece) (f : Option LexFault) → IsNext Second t at (record { kind = kinds.End; from = at; to = at }) → HasTokens Second t at ps f → (ps ≡ record { kind = kinds.End; from = at; to = at } ∷ []) × (f ≡ None)
last_piece t at ps f x (Ended here p n e) = (ap (λ (r : Piece). r ∷ []) (IsNext-same Second t here p (record { kind = kinds.End; from = here; to = here }) n x), refl)
last_piece t at ps f x (Stopped here g n) = absurd (next_or_fault Second t here (record { kind = kinds.End; from = here; to = here }) g x n)
last_piece t at ps f x (Further here q qs g n e r) = absurd (e (ap (λ (r : Piece). r.kind) (IsNext-same Second t here q (record { kind = kinds.End; from = here; to = here }) n x)))

-- the end is read
pub finish : {w : World} {n : ℕ} {i : Input} {h : Notes} → Here w n i h [] → Finished w i h
finish {w} {n} {i} {h} a =
    let size : a.at ≡ length w.text = omega (arith, length_at a.place) in
    let last = last_piece w.text a.at a.pieces w.fault (record { blanks = IsRun-none is_blank w.text a.at (ap is_blank (first_at a.place)); token = (size, refl) }) a.read in
    let rest : i.rest ≡ lex a.pending a.at a.at (Closes TextEnd) ∷ [] = a.same ∙ ap (lexemes_of w.text a.pending) last.0 in
    record {
      over = record { notes = a.pending; from = a.at; to = a.at; over = rest; tail_is = a.total };
      clean = last.1;
      shallow = sym a.depth ∙ ap (first_deep n) rest;
    }

-- the comments that are held, given another way
pub held_as : {w : World} {n : ℕ} {i : Input} {h g : Notes} {s : Text} → h ≡ g → Here w n i h s → Here w n i g s
held_as {w} {n} {i} {h} {g} {s} e a = subst (λ x. Here w n i x s) e a

-- the text, given another way
pub text_as : {w : World} {n : ℕ} {i : Input} {h : Notes} (r s : Text) → r ≡ s → Here w n i h r → Here w n i h s
text_as {w} {n} {i} {h} r s e a = subst (Here w n i h) e a

-- right behind a token, with no comments held
pub fresh_clear : {w : World} {n : ℕ} {i : Input} {s : Text} → Fresh w n i s → Fresh w n (clear i) s
fresh_clear {w} {n} {i} {s} f = record {
  here = record { at = f.here.at; place = f.here.place; pieces = f.here.pieces; pending = f.here.pending; read = f.here.read; same = f.here.same; total = sym f.none; depth = f.here.depth };
  none = f.none;
}

-- behind a block
pub fresh_back : {w : World} {n : ℕ} (o : Input) {i : Input} {s : Text} → Fresh w n i s → Fresh w n (back o i) s
fresh_back {w} {n} o {i} {s} f = record {
  here = record { at = f.here.at; place = f.here.place; pieces = f.here.pieces; pending = f.here.pending; read = f.here.read; same = f.here.same; total = sym (append-nil o.held) ∙ ap (λ x. o.held ++ x) (sym f.none); depth = f.here.depth };
  none = f.none;
}

-- an opening bracket before which fewer than 400 stand open
pub counts_open : (n : ℕ) (o : Opening) → n + 1 ≤ 400 → Counts n (n + 1) (Opens o)
counts_open n o le c f e ts = rw (lt-leb 400 n (omega arith)) refl

-- a closing bracket
pub counts_close : (n : ℕ) (o : Closing) → Counts (n + 1) n (Closes o)
counts_close n o c f e ts = let m : n + 1 - 1 ≡ n = omega arith in ap (λ k. first_deep k ts) m

-- Where the machine stops is the first fault of the grammar.
use Rattle.std.proofs.Common.{◌≡◌, ℕ, Bool, true, false, ◌&&◌, List, [], ◌∷◌, ◌++◌, Some, None, refl, ap, sym, subst, ◌∙◌, ◌↔◌}
use Rattle.std.specs.Prelude.{Option, if◌then◌else◌}
use Rattle.std.specs.Option.{option_map_or}
use Rattle.tree_model.specs.Tree.{Notes}
use Rattle.grammar_model.specs.declared.wanted.Wanted.{Wanted}
use Rattle.grammar_model.specs.Terminal.{PrimitiveKeyword, AnyKeyword, Common, Sign, Less, Greater, Bar, Terminal, Keyword, Binary, Caret}
use Rattle.grammar_model.specs.Input.{Lexeme, lex, first_kind, kinds}
use Rattle.grammar_model.specs.Whole.{Form, DoIt, Method, PatternText}
use Rattle.grammar_model.specs.Stop.{Continues, IsWanted, IsStop, IsUser, IsLess, IsPrimitiveKeyword}
use Rattle.grammar_model.specs.Checks.{Expected, PrimitiveInUser}
use Rattle.grammar_model.specs.Spelling.{HasStop, Unexpected, Primitive}
use Rattle.grammar_model.specs.Machine.{Stack, start, step, run, feeds, ended, wish, may_start, At, is_user, is_primitive, fault_at, BehindName, UnaryOfBinary, UnaryOfKeyword, BinaryOfKeyword, UnaryMessages, BinaryMessages, KeywordMessages, BehindAnyMessage, TheCascade, TheElements, TheBytes, TheItems, FurtherItem, TheBlock, TheParameters, TheSequence, TheStatements, BehindStatement, BehindReturn, PatternRest, KernelBody}
use Rattle.grammar_model.proofs.Stacks.{IsGood, GoodIfSome}
use Rattle.grammar_model.proofs.Steps.{good_step}
use Rattle.grammar_model.proofs.Continuing.{feeds_one, goes_on, stops_further, starts_statement, starts_no_statement}
use Rattle.grammar_model.proofs.Wishes.{wishes}

-- where the machine stops
record Stopped (ss : Stack) (ts left : List Lexeme) (w : Wanted) (b : Bool) : Type 0 where
  front : List Lexeme
  notes : Notes
  at : ℕ
  end : ℕ
  wrong : Terminal
  rest : List Lexeme
  left_is : left ≡ lex notes at end wrong ∷ rest
  split : ts ≡ front ++ lex notes at end wrong ∷ rest
  to : Stack
  read : feeds ss (kinds front) ≡ Some to
  good : IsGood to
  stuck : step to wrong ≡ None
  wish_is : wish to ≡ w
  start_is : may_start to ≡ b

-- tokens that end early are not wrong at a token
never : (ss : Stack) (left : List Lexeme) (w : Wanted) (b : Bool) → ended ss ≡ Some (At left w b) → ⊥
never [] l w b h = cc
never (BehindName ∷ ss) l w b h = never ss l w b h
never (UnaryOfBinary ∷ ss) l w b h = never ss l w b h
never (UnaryOfKeyword ∷ ss) l w b h = never ss l w b h
never (BinaryOfKeyword ∷ ss) l w b h = never ss l w b h
never (UnaryMessages told ∷ ss) l w b h = never ss l w b h
never (BinaryMessages told ∷ ss) l w b h = never ss l w b h
never (KeywordMessages told ∷ ss) l w b h = never ss l w b h
never (BehindAnyMessage told ∷ ss) l w b h = never ss l w b h
never (TheCascade ∷ ss) l w b h = never ss l w b h
never (TheElements ∷ ss) l w b h = never ss l w b h
never (TheBytes ∷ ss) l w b h = never ss l w b h
never (TheItems ∷ ss) l w b h = never ss l w b h
never (FurtherItem ∷ ss) l w b h = never ss l w b h
never (TheBlock ∷ ss) l w b h = never ss l w b h
never (TheParameters ∷ ss) l w b h = never ss l w b h
never (TheSequence ∷ ss) l w b h = never ss l w b h
never (TheStatements ∷ ss) l w b h = never ss l w b h
never (BehindStatement ∷ ss) l w b h = never ss l w b h
never (BehindReturn ∷ ss) l w b h = never ss l w b h
never (PatternRest kernel ∷ ss) l w b h = never ss l w b h
never (KernelBody ∷ ss) l w b h = never ss l w b h
never (p ∷ ss) l w b h = cc

-- one token more
stop_step : (c : Notes) (g e : ℕ) (k : Terminal) (ts : List Lexeme) (ss : Stack) (o : Option Stack) (left : List Lexeme) (w : Wanted) (b : Bool) → IsGood ss → o ≡ step ss k →
    option_map_or (λ s. run s ts) o (Some (At (lex c g e k ∷ ts) (wish ss) (may_start ss))) ≡ Some (At left w b) → ((s : Stack) → o ≡ Some s → run s ts ≡ Some (At left w b) → Stopped s ts left w b) → Stopped ss (lex c g e k ∷ ts) left w b
stop_step c g e k ts ss None left w b h is r later =
    let same : lex c g e k ∷ ts ≡ left = cc in
    record { front = []; notes = c; at = g; end = e; wrong = k; rest = ts; left_is = sym same; split = refl; to = ss; read = refl; good = h; stuck = sym is; wish_is = cc; start_is = cc }
stop_step c g e k ts ss (Some s) left w b h is r later =
    let l = later s refl r in
    record {
      front = lex c g e k ∷ l.front;
      notes = l.notes;
      at = l.at;
      end = l.end;
      wrong = l.wrong;
      rest = l.rest;
      left_is = l.left_is;
      split = ap (λ x. lex c g e k ∷ x) l.split;
      to = l.to;
      read = sym (ap (λ o. option_map_or (λ s. feeds s (kinds l.front)) o None) is) ∙ l.read;
      good = l.good;
      stuck = l.stuck;
      wish_is = l.wish_is;
      start_is = l.start_is;
    }

-- the machine stops at a token
stops_at : (ts : List Lexeme) (ss : Stack) (left : List Lexeme) (w : Wanted) (b : Bool) → IsGood ss → run ss ts ≡ Some (At left w b) → Stopped ss ts left w b
stops_at [] ss left w b h r = absurd (never ss left w b r)
stops_at (lex c g e k ∷ ts) ss left w b h r = stop_step c g e k ts ss (step ss k) left w b h refl r (λ s is. stops_at ts s left w b (subst GoodIfSome is (good_step ss k h)))

-- the stack before a text is good
pub good_start : (form : Form) → IsGood (start form)
good_start DoIt = tt
good_start PatternText = tt
good_start (Method kernel) = tt

-- whether a primitive begins in a text of a user
decides_user : (form : Form) (b : Bool) → is_user form ≡ b → (IsUser form ↔ (b ≡ true))
decides_user DoIt b e = (λ u. sym e, λ t. tt)
decides_user PatternText b e = (λ u. sym e, λ t. tt)
decides_user (Method true) b e = (λ u. absurd u, λ t. let k : false ≡ true = e ∙ t in cc)
decides_user (Method false) b e = (λ u. sym e, λ t. tt)

-- the test for a primitive is right
primitive_parts : (k l : Terminal) → is_primitive k l ≡ true → IsLess k × IsPrimitiveKeyword l
primitive_parts (Binary Less s) (Keyword PrimitiveKeyword t) e = (tt, tt)
primitive_parts k l e = cc

-- the test finds each primitive
parts_primitive : (k l : Terminal) → IsLess k → IsPrimitiveKeyword l → is_primitive k l ≡ true
parts_primitive (Binary Less s) (Keyword PrimitiveKeyword t) a b = refl
parts_primitive (Binary Less s) (Keyword AnyKeyword t) a b = absurd b
parts_primitive (Binary Less s) l a b = absurd b
parts_primitive (Binary Common s) l a b = absurd a
parts_primitive (Binary Sign s) l a b = absurd a
parts_primitive (Binary Greater s) l a b = absurd a
parts_primitive (Binary Bar s) l a b = absurd a
parts_primitive k l a b = absurd a

-- a stop is the fault that the tests tell
stop_fault : (form : Form) (ts : List Lexeme) (before : List Terminal) (at : ℕ) (wrong : Terminal) (rest : List Lexeme) (what : Wanted) (starts user primitive : Bool) →
    IsStop form ts before at wrong rest → IsWanted form before what → is_user form ≡ user → is_primitive wrong (first_kind rest) ≡ primitive → (starts ≡ true → Continues form (before ++ Caret ∷ [])) → (starts ≡ false → ¬ Continues form (before ++ Caret ∷ [])) →
    HasStop form ts (if user && starts && primitive then PrimitiveInUser at else Expected what at)
stop_fault form ts before at wrong rest what true true true stop wish user primitive yes_start no_start =
    let parts = primitive_parts wrong (first_kind rest) primitive in
    Primitive stop (record { user = (decides_user form true user).1 refl; bracket = parts.0; keyword = parts.1; statement = yes_start refl })
stop_fault form ts before at wrong rest what starts false primitive stop wish user is yes_start no_start =
    Unexpected stop (λ p. let e : false ≡ true = (decides_user form false user).0 p.user in cc) wish
stop_fault form ts before at wrong rest what false true primitive stop wish user is yes_start no_start = Unexpected stop (λ p. no_start refl p.statement) wish
stop_fault form ts before at wrong rest what true true false stop wish user is yes_start no_start =
    Unexpected stop (λ p. let e : false ≡ true = sym is ∙ parts_primitive wrong (first_kind rest) p.bracket p.keyword in cc) wish

-- where the machine stops is the first fault of the grammar
pub first_fault : (form : Form) (ts left : List Lexeme) (w : Wanted) (b : Bool) → run (start form) ts ≡ Some (At left w b) → HasStop form ts (fault_at form left w b)
first_fault form ts left w b r =
    let s = stops_at ts (start form) left w b (good_start form) r in
    let before = kinds s.front in
    let stop : IsStop form ts before s.at s.wrong s.rest = record {
      front = s.front;
      notes = s.notes;
      to = s.end;
      split = s.split;
      before_is = refl;
      fits = goes_on form before s.to s.read s.good;
      stops = stops_further form before (s.wrong ∷ []) s.to s.read (feeds_one s.to s.wrong None s.stuck);
    } in
    let wish_here = subst (IsWanted form before) s.wish_is (wishes form before s.to s.good s.read) in
    let fault = stop_fault form ts before s.at s.wrong s.rest w b (is_user form) (is_primitive s.wrong (first_kind s.rest)) stop wish_here refl refl
    (λ t. starts_statement form before s.to s.read s.good (s.start_is ∙ t)) (λ f. starts_no_statement form before s.to s.read (s.start_is ∙ f)) in
    subst (λ l. HasStop form ts (fault_at form l w b)) (sym s.left_is) fault

-- Tokens that end with the end of the text are a text or have one first fault, and never both.
use Rattle.std.proofs.Common.{◌≡◌, ℕ, Bool, List, [], ◌∷◌, ◌++◌, Some, None, refl, ap, sym, subst, ◌∙◌, append_assoc, ◌⊎◌, inl, inr}
use Rattle.std.specs.Prelude.{Option}
use Rattle.std.specs.Option.{option_map_or}
use Rattle.tree_model.specs.Tree.{Notes}
use Rattle.grammar_model.specs.declared.wanted.Wanted.{Wanted}
use Rattle.grammar_model.specs.declared.wanted.Wanted.TheVariants.{Operand, Identifier, Element, End}
use Rattle.grammar_model.specs.Terminal.{Terminal, Caret}
use Rattle.grammar_model.specs.Input.{Lexeme, lex, first_kind, kinds, IsEnded}
use Rattle.grammar_model.specs.Whole.{Form, IsText}
use Rattle.grammar_model.specs.Stop.{Continues, IsWanted, IsStop, IsUserPrimitive, IsLess, IsPrimitiveKeyword}
use Rattle.grammar_model.specs.Checks.{Fault, Expected, PrimitiveInUser}
use Rattle.grammar_model.specs.Spelling.{HasStop, Unexpected, Primitive}
use Rattle.grammar_model.specs.Machine.{Stack, start, step, run, wish, may_start, Wrong, Missing, At, fault_at}
use Rattle.grammar_model.proofs.Stacks.{IsNil, IsGood, GoodIfSome}
use Rattle.grammar_model.proofs.Steps.{good_step, EmptyIfSome, good_end}
use Rattle.grammar_model.proofs.WholeTexts.{gets_text}
use Rattle.grammar_model.proofs.Stops.{good_start, first_fault}

-- an empty stack wants no more
nil_not_missing : (ss : Stack) → IsNil ss → run ss [] ≡ Some Missing → ⊥
nil_not_missing [] n r = cc
nil_not_missing (p ∷ ss) n r = n

-- the end of the text is read or wrong
end_step : (o : Option Stack) (w : Wrong) (left : List Lexeme) (wanted : Wanted) (b : Bool) → w ≡ At left wanted b → EmptyIfSome o → option_map_or (λ s. run s []) o (Some w) ≡ Some Missing → ⊥
end_step None w left wanted b e n r = cc
end_step (Some s) w left wanted b e n r = nil_not_missing s n r

-- one token more
more_step : (o : Option Stack) (ts : List Lexeme) (w : Wrong) (left : List Lexeme) (wanted : Wanted) (b : Bool) → w ≡ At left wanted b → ((s : Stack) → o ≡ Some s → run s ts ≡ Some Missing → ⊥) → option_map_or (λ s. run s ts) o (Some w) ≡ Some Missing → ⊥
more_step None ts w left wanted b e later r = cc
more_step (Some s) ts w left wanted b e later r = later s refl r

-- tokens with the end of the text are not too few
not_missing : (ts : List Lexeme) (ss : Stack) → IsGood ss → IsEnded ts → run ss ts ≡ Some Missing → ⊥
not_missing [] ss good e r = e
not_missing (lex c f b k ∷ []) ss good e r =
    end_step (step ss k) _ (lex c f b k ∷ []) (wish ss) (may_start ss) refl (subst (λ k. EmptyIfSome (step ss k)) (sym e) (good_end ss good)) r
not_missing (lex c f b k ∷ t ∷ ts) ss good e r =
    more_step (step ss k) (t ∷ ts) _ (lex c f b k ∷ t ∷ ts) (wish ss) (may_start ss) refl (λ s is q. not_missing (t ∷ ts) s (subst GoodIfSome is (good_step ss k good)) e q) r

-- tokens with the end of the text are a text or have a first fault
pub text_or_stop : (form : Form) (ts : List Lexeme) → IsEnded ts → IsText form ts ⊎ ((fault : Fault) × HasStop form ts fault)
text_or_stop form ts ended = decide (run (start form) ts) refl
  where
    decide : (o : Option Wrong) → run (start form) ts ≡ o → IsText form ts ⊎ ((fault : Fault) × HasStop form ts fault)
    decide None e = inl (gets_text form ts e)
    decide (Some Missing) e = absurd (not_missing ts (start form) (good_start form) ended e)
    decide (Some (At left w b)) e = inr (fault_at form left w b, first_fault form ts left w b e)

-- the kinds of joined tokens
kinds-append : (ts us : List Lexeme) → kinds (ts ++ us) ≡ kinds ts ++ kinds us
kinds-append [] us = refl
kinds-append (lex c f e k ∷ ts) us = ap (λ x. k ∷ x) (kinds-append ts us)

-- what begins a text has beginnings that begin it
continues_front : (form : Form) (p q : List Terminal) → Continues form (p ++ q) → Continues form p
continues_front form p q c = record { tokens = c.tokens; behind = q ++ c.behind; same = c.same ∙ append_assoc p q c.behind; text = c.text }

-- a text has no token at which no text goes on
not_stop : (form : Form) (ts : List Lexeme) (before : List Terminal) (at : ℕ) (wrong : Terminal) (rest : List Lexeme) → IsText form ts → IsStop form ts before at wrong rest → ⊥
not_stop form ts before at wrong rest text s =
    let same : kinds ts ≡ before ++ (wrong ∷ kinds rest) = ap kinds s.split ∙ kinds-append s.front (lex s.notes at s.to wrong ∷ rest) ∙ ap (λ b. b ++ (wrong ∷ kinds rest)) s.before_is in
    s.stops (record { tokens = ts; behind = kinds rest; same = same ∙ sym (append_assoc before (wrong ∷ []) (kinds rest)); text = text })

-- never both
pub not_both : (form : Form) (ts : List Lexeme) (fault : Fault) → IsText form ts → ¬ HasStop form ts fault
not_both form ts fault text (Unexpected s u w) = not_stop form ts _ _ _ _ text s
not_both form ts fault text (Primitive s u) = not_stop form ts _ _ _ _ text s

-- two places in one list: the same, or one before the other
data Places (p q : List Lexeme) (a b : Lexeme) (s t : List Lexeme) : Type 0 where
  -- the same place
  Same : p ≡ q → a ≡ b → s ≡ t → Places p q a b s t
  -- the first place is before the second
  Earlier : (m : List Lexeme) → q ≡ p ++ (a ∷ m) → Places p q a b s t
  -- the second place is before the first
  Later : (m : List Lexeme) → p ≡ q ++ (b ∷ m) → Places p q a b s t

-- one token more in front of both
further : (x y : Lexeme) (p q : List Lexeme) (a b : Lexeme) (s t : List Lexeme) → Places p q a b s t → x ≡ y → Places (x ∷ p) (y ∷ q) a b s t
further x y p q a b s t (Same e f g) h = Same (λ v. h v ∷ e v) f g
further x y p q a b s t (Earlier m e) h = Earlier m (λ v. sym h v ∷ e v)
further x y p q a b s t (Later m e) h = Later m (λ v. h v ∷ e v)

-- two places in one list
places : (p q : List Lexeme) (a b : Lexeme) (s t : List Lexeme) → p ++ (a ∷ s) ≡ q ++ (b ∷ t) → Places p q a b s t
places [] [] a b s t e = let heads : a ≡ b = cc in let tails : s ≡ t = cc in Same refl heads tails
places [] (x ∷ q) a b s t e = let same : a ≡ x = cc in Earlier q (ap (λ y. y ∷ q) (sym same))
places (x ∷ p) [] a b s t e = let same : x ≡ b = cc in Later p (ap (λ y. y ∷ p) same)
places (x ∷ p) (y ∷ q) a b s t e =
    let heads : x ≡ y = cc in
    let tails : p ++ (a ∷ s) ≡ q ++ (b ∷ t) = cc in
    further x y p q a b s t (places p q a b s t tails) heads

-- a token at which no text goes on stands in no beginning of a text
not_earlier : (form : Form) (before after : List Terminal) (front back m : List Lexeme) (c : Notes) (f e : ℕ) (wrong : Terminal) → kinds front ≡ before → kinds back ≡ after → back ≡ front ++ (lex c f e wrong ∷ m) → ¬ Continues form (before ++ wrong ∷ []) → Continues form after → ⊥
not_earlier form before after front back m c f e wrong x y split stops fits =
    let same : after ≡ (before ++ wrong ∷ []) ++ kinds m =
    sym y ∙ ap kinds split ∙ kinds-append front (lex c f e wrong ∷ m) ∙ ap (λ b. b ++ (wrong ∷ kinds m)) x ∙ sym (append_assoc before (wrong ∷ []) (kinds m)) in
    stops (continues_front form (before ++ wrong ∷ []) (kinds m) (subst (Continues form) same fits))

-- two stops are at one token
record SameStop (b b' : List Terminal) (at at' : ℕ) (w w' : Terminal) (r r' : List Lexeme) : Type 0 where
  before : b ≡ b'
  place : at ≡ at'
  wrong : w ≡ w'
  rest : r ≡ r'

-- tokens have one place at which no text goes on
one_stop : (form : Form) (ts : List Lexeme) (b b' : List Terminal) (at at' : ℕ) (w w' : Terminal) (r r' : List Lexeme) → IsStop form ts b at w r → IsStop form ts b' at' w' r' → SameStop b b' at at' w w' r r'
one_stop form ts b b' at at' w w' r r' s s' =
    same (places s.front s'.front (lex s.notes at s.to w) (lex s'.notes at' s'.to w') r r' (sym s.split ∙ s'.split))
  where
    same : Places s.front s'.front (lex s.notes at s.to w) (lex s'.notes at' s'.to w') r r' → SameStop b b' at at' w w' r r'
    same (Same e f g) = record { before = sym s.before_is ∙ ap kinds e ∙ s'.before_is; place = cc; wrong = cc; rest = g }
    same (Earlier m e) = absurd (not_earlier form b b' s.front s'.front m s.notes at s.to w s.before_is s'.before_is e s.stops s'.fits)
    same (Later m e) = absurd (not_earlier form b' b s'.front s.front m s'.notes at' s'.to w' s'.before_is s.before_is e s'.stops s.fits)

-- one thing is wanted behind some tokens
one_wanted : (form : Form) (p : List Terminal) (v w : Wanted) → IsWanted form p v → IsWanted form p w → v ≡ w
one_wanted form p Operand Operand a b = refl
one_wanted form p Operand Identifier a b = absurd (b.0 a)
one_wanted form p Operand Element a b = absurd (b.0 a)
one_wanted form p Operand End a b = absurd (b.0 a)
one_wanted form p Identifier Operand a b = absurd (a.0 b)
one_wanted form p Identifier Identifier a b = refl
one_wanted form p Identifier Element a b = absurd (b.1 a.1)
one_wanted form p Identifier End a b = absurd (b.1 a.1)
one_wanted form p Element Operand a b = absurd (a.0 b)
one_wanted form p Element Identifier a b = absurd (a.1 b.1)
one_wanted form p Element Element a b = refl
one_wanted form p Element End a b = absurd (b.2 a.2)
one_wanted form p End Operand a b = absurd (a.0 b)
one_wanted form p End Identifier a b = absurd (a.1 b.1)
one_wanted form p End Element a b = absurd (a.2 b.2)
one_wanted form p End End a b = refl

-- a primitive begins at one stop where it begins at the other
same_primitive : (form : Form) (b b' : List Terminal) (at at' : ℕ) (w w' : Terminal) (r r' : List Lexeme) → SameStop b b' at at' w w' r r' → IsUserPrimitive form b w r → IsUserPrimitive form b' w' r'
same_primitive form b b' at at' w w' r r' s p =
    record { user = p.user; bracket = subst IsLess s.wrong p.bracket; keyword = subst (λ r. IsPrimitiveKeyword (first_kind r)) s.rest p.keyword; statement = subst (λ b. Continues form (b ++ Caret ∷ [])) s.before p.statement }

-- the same the other way round
flipped : {b b' : List Terminal} {at at' : ℕ} {w w' : Terminal} {r r' : List Lexeme} → SameStop b b' at at' w w' r r' → SameStop b' b at' at w' w r' r
flipped s = record { before = sym s.before; place = sym s.place; wrong = sym s.wrong; rest = sym s.rest }

-- tokens have one first fault of the grammar at most
pub one_HasStop : (form : Form) (ts : List Lexeme) (v w : Fault) → HasStop form ts v → HasStop form ts w → v ≡ w
one_HasStop form ts v w (Unexpected {what} s u a) (Unexpected {before = after} {what = other} s' u' a') =
    let e = one_stop form ts _ _ _ _ _ _ _ _ s s' in
    let wants = one_wanted form after what other (subst (λ b. IsWanted form b what) e.before a) a' in
    (λ k. Expected (wants k) (e.place k))
one_HasStop form ts v w (Unexpected s u a) (Primitive s' u') =
    let e = one_stop form ts _ _ _ _ _ _ _ _ s s' in absurd (u (same_primitive form _ _ _ _ _ _ _ _ (flipped e) u'))
one_HasStop form ts v w (Primitive s u) (Unexpected s' u' a') =
    let e = one_stop form ts _ _ _ _ _ _ _ _ s s' in absurd (u' (same_primitive form _ _ _ _ _ _ _ _ e u))
one_HasStop form ts v w (Primitive s u) (Primitive s' u') =
    let e = one_stop form ts _ _ _ _ _ _ _ _ s s' in ap PrimitiveInUser e.place

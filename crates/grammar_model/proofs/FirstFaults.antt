-- A text whose tokens are read in one way is sound or has one first fault.
use Rattle.std.proofs.Common.{◌≡◌, ℕ, List, Option, Some, None, refl, ap, sym, subst, ◌∙◌, ◌⊎◌, inl, inr}
use Rattle.token_model.specs.TokenLists.{Piece}
use Rattle.token_model.specs.declared.fault.LexFault.{LexFault}
use Rattle.grammar_model.specs.Input.{Lexeme, IsEnded}
use Rattle.grammar_model.specs.Spanned.{SpannedSequence, SpannedMethod, SpannedTree}
use Rattle.grammar_model.specs.Ahead.{Longest}
use Rattle.grammar_model.specs.Whole.{Form, DoIt, Method, PatternText, IsDoIt, IsMethod, IsPatternText, IsText, alone}
use Rattle.grammar_model.specs.Checks.{Fault, Lexical, TooDeep, first_deep, doit_fault, method_fault}
use Rattle.grammar_model.specs.Spelling.{HasStop, HasTreeFault, InDoIt, InMethod, InPattern, HasFaultOf, InTokens, InBrackets, InGrammar, InTree}
use Rattle.grammar_model.proofs.OneWhole.{one_IsDoIt, one_IsMethod}
use Rattle.grammar_model.proofs.OneTree.{one_Expression}
use Rattle.grammar_model.proofs.Either.{text_or_stop, not_both, one_HasStop}

-- two faults in one place are one
pub some_fault : {e f : LexFault} → Some e ≡ Some f → e ≡ f
some_fault h = cc

-- a fault is not none
pub some_or_none : {e : LexFault} → Some e ≡ None → ⊥
some_or_none h = cc

-- tokens are read in one way: a text has one list of them, which ends with its end, or one lexical fault
pub record Lexing (tokens : List Piece → Option LexFault → Type 0) (lexed : List Lexeme → Type 0) : Type 0 where
  pub either : ((ts : List Lexeme) × lexed ts) ⊎ ((ps : List Piece) × (fault : LexFault) × tokens ps (Some fault))
  pub same : (ts us : List Lexeme) → lexed ts → lexed us → ts ≡ us
  pub ended : (ts : List Lexeme) → lexed ts → IsEnded ts
  pub one_fault : (ps qs : List Piece) (e f : LexFault) → tokens ps (Some e) → tokens qs (Some f) → e ≡ f
  pub not_both : (ps : List Piece) (e : LexFault) (ts : List Lexeme) → tokens ps (Some e) → lexed ts → ⊥

-- the tokens have a tree without a fault
abbrev pub IsSound : Form → List Lexeme → Type 0
IsSound DoIt ts = (s : SpannedSequence) × IsDoIt Longest ts s × (doit_fault s ≡ None)
IsSound (Method kernel) ts = (m : SpannedMethod) × IsMethod Longest kernel ts m × (method_fault m ≡ None)
IsSound PatternText ts = (t : SpannedTree) × IsPatternText Longest ts t × (doit_fault (alone ts t) ≡ None)

-- the text has no fault
pub record IsSoundText (reads : List Lexeme → Type 0) (form : Form) : Type 0 where
  pub tokens : List Lexeme
  pub lexed : reads tokens
  pub shallow : first_deep 0 tokens ≡ None
  pub sound : IsSound form tokens

-- a tree that the grammar spells is sound or has its first fault
of_tree : (form : Form) (ts : List Lexeme) → IsText form ts → IsSound form ts ⊎ ((fault : Fault) × HasTreeFault ts form fault)
of_tree DoIt ts (s, g) = decide (doit_fault s) refl
  where
    decide : (o : Option Fault) → doit_fault s ≡ o → IsSound DoIt ts ⊎ ((fault : Fault) × HasTreeFault ts DoIt fault)
    decide None e = inl (s, g, e)
    decide (Some fault) e = inr (fault, InDoIt g e)
of_tree (Method kernel) ts (m, g) = decide (method_fault m) refl
  where
    decide : (o : Option Fault) → method_fault m ≡ o → IsSound (Method kernel) ts ⊎ ((fault : Fault) × HasTreeFault ts (Method kernel) fault)
    decide None e = inl (m, g, e)
    decide (Some fault) e = inr (fault, InMethod g e)
of_tree PatternText ts (p, g) = decide (doit_fault (alone ts p)) refl
  where
    decide : (o : Option Fault) → doit_fault (alone ts p) ≡ o → IsSound PatternText ts ⊎ ((fault : Fault) × HasTreeFault ts PatternText fault)
    decide None e = inl (p, g, e)
    decide (Some fault) e = inr (fault, InPattern g e)

-- a tree's fault is one
one_HasTreeFault : (ts : List Lexeme) (form : Form) (v w : Fault) → HasTreeFault ts form v → HasTreeFault ts form w → v ≡ w
one_HasTreeFault ts form v w (InDoIt {s} g e) (InDoIt {s = s'} g' e') = let same = one_IsDoIt s s' g g' in let k : Some v ≡ Some w = sym e ∙ ap doit_fault same ∙ e' in cc
one_HasTreeFault ts form v w (InPattern {t} g e) (InPattern {t = t'} g' e') = let same = (one_Expression g.expression g'.expression refl).0 in let k : Some v ≡ Some w = sym e ∙ ap (λ x. doit_fault (alone ts x)) same ∙ e' in cc
one_HasTreeFault ts form v w (InMethod {m} g e) (InMethod {m = m'} g' e') = let same = one_IsMethod m m' g g' in let k : Some v ≡ Some w = sym e ∙ ap method_fault same ∙ e' in cc

-- a tree with a fault is a text of the grammar
tree_text : (ts : List Lexeme) (form : Form) (v : Fault) → HasTreeFault ts form v → IsText form ts
tree_text ts form v (InDoIt {s} g e) = (s, g)
tree_text ts form v (InPattern {t} g e) = (t, g)
tree_text ts form v (InMethod {m} g e) = (m, g)

-- so is a sound one
sound_text : (form : Form) (ts : List Lexeme) → IsSound form ts → IsText form ts
sound_text DoIt ts (s, g, e) = (s, g)
sound_text (Method kernel) ts (m, g, e) = (m, g)
sound_text PatternText ts (p, g, e) = (p, g)

-- a sound tree has no fault
sound_tree : (form : Form) (ts : List Lexeme) (v : Fault) → IsSound form ts → HasTreeFault ts form v → ⊥
sound_tree form ts v s (InDoIt {s = s'} g' e') = let k : Some v ≡ None = sym e' ∙ ap doit_fault (one_IsDoIt s' s.0 g' s.1) ∙ s.2 in cc
sound_tree form ts v s (InMethod {m = m'} g' e') = let k : Some v ≡ None = sym e' ∙ ap method_fault (one_IsMethod m' s.0 g' s.1) ∙ s.2 in cc
sound_tree form ts v s (InPattern {t = p'} g' e') =
    let same = (one_Expression g'.expression s.1.expression refl).0 in
    let k : Some v ≡ None = sym e' ∙ ap (λ x. doit_fault (alone ts x)) same ∙ s.2 in cc

-- two places of brackets are one
one_place : {n m : ℕ} → Some n ≡ Some m → n ≡ m
one_place h = cc

-- a place of a bracket is not none
place_or_none : {n : ℕ} → Some n ≡ None → ⊥
place_or_none h = cc

-- a text is sound or has a first fault
pub sound_or_fault : {tokens : List Piece → Option LexFault → Type 0} {lexed : List Lexeme → Type 0} → Lexing tokens lexed → (form : Form) → IsSoundText lexed form ⊎ ((fault : Fault) × HasFaultOf tokens lexed form fault)
sound_or_fault {tokens} {lexed} x form = elim x.either [
  | inr (ps, fault, h) ↦ inr (Lexical fault, InTokens h)
  | inl (ts, l) ↦ of_lexed ts l
]
  where
    of_text : (ts : List Lexeme) → lexed ts → first_deep 0 ts ≡ None → IsSound form ts ⊎ ((fault : Fault) × HasTreeFault ts form fault) → IsSoundText lexed form ⊎ ((fault : Fault) × HasFaultOf tokens lexed form fault)
    of_text ts l deep (inl s) = inl (record { tokens = ts; lexed = l; shallow = deep; sound = s })
    of_text ts l deep (inr (fault, h)) = inr (fault, InTree l deep h)

    of_tokens : (ts : List Lexeme) → lexed ts → first_deep 0 ts ≡ None → IsText form ts ⊎ ((fault : Fault) × HasStop form ts fault) → IsSoundText lexed form ⊎ ((fault : Fault) × HasFaultOf tokens lexed form fault)
    of_tokens ts l deep (inl g) = of_text ts l deep (of_tree form ts g)
    of_tokens ts l deep (inr (fault, h)) = inr (fault, InGrammar l deep h)

    of_deep : (ts : List Lexeme) → lexed ts → (o : Option ℕ) → first_deep 0 ts ≡ o → IsSoundText lexed form ⊎ ((fault : Fault) × HasFaultOf tokens lexed form fault)
    of_deep ts l None e = of_tokens ts l e (text_or_stop form ts (x.ended ts l))
    of_deep ts l (Some at) e = inr (TooDeep at, InBrackets l e)

    of_lexed : (ts : List Lexeme) → lexed ts → IsSoundText lexed form ⊎ ((fault : Fault) × HasFaultOf tokens lexed form fault)
    of_lexed ts l = of_deep ts l (first_deep 0 ts) refl

-- a sound text has no first fault
pub sound_or_faulty : {tokens : List Piece → Option LexFault → Type 0} {lexed : List Lexeme → Type 0} → Lexing tokens lexed → (form : Form) (v : Fault) → IsSoundText lexed form → HasFaultOf tokens lexed form v → ⊥
sound_or_faulty x form v s (InTokens h) = x.not_both _ _ _ h s.lexed
sound_or_faulty x form v s (InBrackets {at} l e) = place_or_none (sym e ∙ ap (first_deep 0) (x.same _ _ l s.lexed) ∙ s.shallow)
sound_or_faulty x form v s (InGrammar {ts} l e g) = not_both form ts v (sound_text form ts (subst (IsSound form) (x.same s.tokens ts s.lexed l) s.sound)) g
sound_or_faulty x form v s (InTree {ts} l e g) = sound_tree form ts v (subst (IsSound form) (x.same s.tokens ts s.lexed l) s.sound) g

-- a text has one first fault at most
pub one_HasFaultOf : {tokens : List Piece → Option LexFault → Type 0} {lexed : List Lexeme → Type 0} → Lexing tokens lexed → (form : Form) (v w : Fault) → HasFaultOf tokens lexed form v → HasFaultOf tokens lexed form w → v ≡ w
one_HasFaultOf x form v w (InTokens h) (InTokens h') = ap Lexical (x.one_fault _ _ _ _ h h')
one_HasFaultOf x form v w (InTokens h) (InBrackets l e) = absurd (x.not_both _ _ _ h l)
one_HasFaultOf x form v w (InTokens h) (InGrammar l e g) = absurd (x.not_both _ _ _ h l)
one_HasFaultOf x form v w (InTokens h) (InTree l e g) = absurd (x.not_both _ _ _ h l)
one_HasFaultOf x form v w (InBrackets l e) (InTokens h) = absurd (x.not_both _ _ _ h l)
one_HasFaultOf x form v w (InGrammar l e g) (InTokens h) = absurd (x.not_both _ _ _ h l)
one_HasFaultOf x form v w (InTree l e g) (InTokens h) = absurd (x.not_both _ _ _ h l)
one_HasFaultOf x form v w (InBrackets l e) (InBrackets l' e') = ap TooDeep (one_place (sym e ∙ ap (first_deep 0) (x.same _ _ l l') ∙ e'))
one_HasFaultOf x form v w (InBrackets l e) (InGrammar l' e' g) = absurd (place_or_none (sym e ∙ ap (first_deep 0) (x.same _ _ l l') ∙ e'))
one_HasFaultOf x form v w (InBrackets l e) (InTree l' e' g) = absurd (place_or_none (sym e ∙ ap (first_deep 0) (x.same _ _ l l') ∙ e'))
one_HasFaultOf x form v w (InGrammar l' e' g) (InBrackets l e) = absurd (place_or_none (sym e ∙ ap (first_deep 0) (x.same _ _ l l') ∙ e'))
one_HasFaultOf x form v w (InTree l' e' g) (InBrackets l e) = absurd (place_or_none (sym e ∙ ap (first_deep 0) (x.same _ _ l l') ∙ e'))
one_HasFaultOf x form v w (InGrammar {ts} l e g) (InGrammar {ts = us} l' e' g') = one_HasStop form us v w (subst (λ ts. HasStop form ts v) (x.same ts us l l') g) g'
one_HasFaultOf x form v w (InGrammar {ts} l e g) (InTree {ts = us} l' e' g') = absurd (not_both form us v (tree_text us form w g') (subst (λ ts. HasStop form ts v) (x.same ts us l l') g))
one_HasFaultOf x form v w (InTree {ts} l e g) (InGrammar {ts = us} l' e' g') = absurd (not_both form ts w (tree_text ts form v g) (subst (λ ts. HasStop form ts w) (sym (x.same ts us l l')) g'))
one_HasFaultOf x form v w (InTree {ts} l e g) (InTree {ts = us} l' e' g') = one_HasTreeFault us form v w (subst (λ ts. HasTreeFault ts form v) (x.same ts us l l') g) g'

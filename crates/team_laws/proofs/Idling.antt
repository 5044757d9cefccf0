-- An idle session has nothing proposed.
use Rattle.std.proofs.Common.{◌≡◌, ◌≢◌, ◌⊎◌, inl, inr, ℕ, Bool, true, false, ◌&&◌, IsTrue, if◌then◌else◌, List, [], ◌∷◌, ◌++◌, length, Option, Some, None, refl, sym, ap, subst, ◌∙◌, true≢false}
use Rattle.std.specs.List.{list_any}
use Rattle.std.specs.Option.{option_map}
use Rattle.std.proofs.Math.Dec.{eqb}
use Rattle.std.proofs.lemmas.Bool.Decides.{eqb_tells}
use Rattle.std.proofs.lemmas.Option.{none-some}
use Rattle.team_core.specs.declared.entry.Entry.{Entry}
use Rattle.team_core.specs.declared.entry.Stand.{Stand}
use Rattle.team_core.specs.declared.entry.Stand.TheVariants.{Idle, Fresh, Late}
use Rattle.team_core.specs.declared.reply.Reply.{Reply}
use Rattle.team_core.specs.Journal.{is_mover, revision, since_then, since, opens, closes, standing, standing_by}
use Rattle.team_core.specs.History.{RulesOf}
use Rattle.team_core.specs.Events.{ActOf, Begin, Propose, Commit, Undo, Redo, PointOf, outcome, begin_reply, propose_reply, entry_of, proposed_then, is_accepted, Answers}
use Rattle.team_core.proofs.Snoc.{since-snoc}
use Rattle.team_laws.specs.Logs.{EventOf, Runs, next, reached}
use Rattle.team_laws.specs.Words.{HasNoneIdle}

is_idle : Stand → Bool
is_idle Idle = true
is_idle Fresh = false
is_idle Late = false

-- an idle session did not begin
idle-none : (o : Option (List Entry)) → standing_by o ≡ Idle → o ≡ None
unfolding is_idle
idle-none None h = refl
idle-none (Some es) h = by (list_any is_mover es) h
  where
    by : (b : Bool) → (if b then Late else Fresh) ≡ Idle → Some es ≡ None
    by true k = absurd (true≢false (sym (ap is_idle k)))
    by false k = absurd (true≢false (sym (ap is_idle k)))

none-before : (f : List Entry → List Entry) (o : Option (List Entry)) → option_map f o ≡ None → o ≡ None
none-before f None h = refl
none-before f (Some es) h = absurd (none-some (f es) (sym h))

module _ {S C Q : Type 0} (rules : RulesOf S C Q) where
  -- the events since the begin, after one of another session, or one of the session that neither opens nor closes it
  abbrev more : PointOf S C → ℕ → ActOf C → Reply Q → List Entry → List Entry
  more p s act r es = es ++ entry_of p s act r ∷ []

  -- an event of the session t, which is s: after it the session is idle, so nothing is proposed
  own-after : (p : PointOf S C) (s : ℕ) (was : Option (List Entry)) (cs : List C) (act : ActOf C) (r : Reply Q) → r ≡ (outcome rules p s act).0 →
      (was ≡ None → standing s p.log ≡ Idle) → (was ≡ None → cs ≡ []) →
      (if opens (entry_of p s act r) then Some [] else if closes (entry_of p s act r) then None else option_map (more p s act r) was) ≡ None →
      proposed_then act (is_accepted r) cs ≡ []
  own-after p s was cs Begin r e stands none h = by (is_accepted r) h
    where
      by : (b : Bool) → (if b && true then Some [] else option_map (more p s Begin r) was) ≡ None → cs ≡ []
      by true k = absurd (none-some [] (sym k))
      by false k = none (none-before (more p s Begin r) was k)
  own-after p s was cs (Propose c) r e stands none h = by (is_accepted r) h
    where
      refused : was ≡ None → (if is_accepted r then cs ++ c ∷ [] else cs) ≡ []
      refused w = ap (λ (x : Reply Q). if is_accepted x then cs ++ c ∷ [] else cs) (e ∙ ap (λ (t : Stand). propose_reply {Q = Q} t (revision p.log) (length (p.proposed s))) (stands w)) ∙ none w

      by : (b : Bool) → (if b && false then Some [] else option_map (more p s (Propose c) r) was) ≡ None → (if is_accepted r then cs ++ c ∷ [] else cs) ≡ []
      by true k = refused (none-before (more p s (Propose c) r) was k)
      by false k = refused (none-before (more p s (Propose c) r) was k)
  own-after p s was cs Commit r e stands none h = refl
  own-after p s was cs Undo r e stands none h = by (is_accepted r) h
    where
      by : (b : Bool) → (if b && false then Some [] else option_map (more p s Undo r) was) ≡ None → cs ≡ []
      by true k = none (none-before (more p s Undo r) was k)
      by false k = none (none-before (more p s Undo r) was k)
  own-after p s was cs Redo r e stands none h = by (is_accepted r) h
    where
      by : (b : Bool) → (if b && false then Some [] else option_map (more p s Redo r) was) ≡ None → cs ≡ []
      by true k = none (none-before (more p s Redo r) was k)
      by false k = none (none-before (more p s Redo r) was k)

  pub event-idle : (p : PointOf S C) (s : ℕ) (act : ActOf C) (r : Reply Q) (q : PointOf S C) → HasNoneIdle p → Answers rules p s act r q → HasNoneIdle q
  event-idle p s act r q idle a t h = a.proposed t ∙ by (eqb_tells t s)
    where
      ended : since_then t (since t p.log) (entry_of p s act r) ≡ None
      ended = sym (since-snoc t p.log (entry_of p s act r)) ∙ sym (ap (since t) a.log) ∙ idle-none (since t q.log) h

      none : since t p.log ≡ None → p.proposed t ≡ []
      none w = idle t (ap standing_by w)

      by : ((eqb t s ≡ true) × (t ≡ s)) ⊎ ((eqb t s ≡ false) × (t ≢ s)) → (if eqb t s then proposed_then act (is_accepted r) (p.proposed t) else p.proposed t) ≡ []
      by (inl same) =
          ap (λ b. if b then proposed_then act (is_accepted r) (p.proposed t) else p.proposed t) same.0
          ∙ own-after p s (since t p.log) (p.proposed t) act r a.reply (λ w. ap (λ (k : ℕ). standing k p.log) (sym same.1) ∙ ap standing_by w) none
          ((λ i. if sym same.0 i && opens (entry_of p s act r) then Some [] else if sym same.0 i && closes (entry_of p s act r) then None else option_map (more p s act r) (since t p.log)) ∙ ended)
      by (inr other) =
          ap (λ b. if b then proposed_then act (is_accepted r) (p.proposed t) else p.proposed t) other.0
          ∙ none (none-before (more p s act r) (since t p.log)
          ((λ i. if sym other.0 i && opens (entry_of p s act r) then Some [] else if sym other.0 i && closes (entry_of p s act r) then None else option_map (more p s act r) (since t p.log)) ∙ ended))

  pub reached-idle : (p : PointOf S C) (es : List (EventOf C)) → HasNoneIdle p → HasNoneIdle (reached rules p es)
  reached-idle p [] idle = idle
  reached-idle p (e ∷ es) idle =
      let a : Answers rules p e.session e.act (outcome rules p e.session e.act).0 (next rules p e) = record { reply = refl; log = refl; proposed = λ t. refl; history = refl } in
      reached-idle (next rules p e) es (event-idle p e.session e.act (outcome rules p e.session e.act).0 (next rules p e) idle a)

  -- a begin that is accepted is one of an idle session
  pub begun-idle : (p : PointOf S C) (s : ℕ) (r : Reply Q) (q : PointOf S C) → HasNoneIdle p → Answers rules p s Begin r q → IsTrue (is_accepted r) → q.proposed s ≡ []
  begun-idle p s r q idle a accepted = a.proposed s ∙ same (eqb s s) ∙ by (standing s p.log) refl (ap is_accepted (sym a.reply) ∙ accepted)
    where
      same : (b : Bool) → (if b then p.proposed s else p.proposed s) ≡ p.proposed s
      same true = refl
      same false = refl

      by : (stand : Stand) → standing s p.log ≡ stand → is_accepted (begin_reply {Q = Q} stand (revision p.log)) ≡ true → p.proposed s ≡ []
      by Idle e k = idle s e
      by Fresh e k = absurd (true≢false (sym k))
      by Late e k = absurd (true≢false (sym k))

pub run-idle : {S C Q : Type 0} (old : RulesOf S C Q) (f : C → Bool) (p : PointOf S C) (es : List (EventOf C)) (rs : List (Reply Q)) (new : RulesOf S C Q) (g : C → Bool) (q : PointOf S C) →
    HasNoneIdle p → Runs old f p es rs new g q → HasNoneIdle q
run-idle old f p [] [] new g q idle h = subst (λ (x : PointOf _ _). HasNoneIdle x) (sym h.0) idle
run-idle old f p [] (r ∷ rs) new g q idle h = absurd h
run-idle old f p (e ∷ es) [] new g q idle h = absurd h
run-idle old f p (e ∷ es) (r ∷ rs) new g q idle (rules, k, m, kept, a, fit, more) = run-idle rules k m es rs new g q (event-idle rules p e.session e.act r m idle a) more

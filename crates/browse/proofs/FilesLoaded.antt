-- A part of a call refuses what the whole refuses.
use Rattle.std.proofs.Common.{ℕ, List, ◌≤◌, ◌<◌, length, inl, inr, subst, arith}
use Rattle.rb_base.specs.Outside.{Told, IsNoFile, OnFile, RoseBy}
use Rattle.image_forms.specs.declared.status.Status.{Status}
use Rattle.image_forms.specs.Loads.{World, Within, Refuses, MayFail}

RoseBy-within : (n a b c d : ℕ) → a ≤ b → c ≤ d → RoseBy n b c → RoseBy n a d
RoseBy-within n a b c d h k (inl r) = inl (omega arith)
RoseBy-within n a b c d h k (inr r) = inr (omega arith)

MayFail-within : (w whole : World) (name : List ℕ) → Within w whole → MayFail w name → MayFail whole name
MayFail-within w whole name h (inl absent) = inl (subst (λ (t : List ℕ → Told). IsNoFile (t name)) h.told absent)
MayFail-within w whole name h (inr rose) = inr (RoseBy-within _ _ _ _ _ h.faults_before h.faults_after rose)

pub Refuses-within : (w whole : World) (name : List ℕ) (limit : ℕ) (s : Status) (sent : List ℕ) → Within w whole → Refuses w name limit s sent → Refuses whole name limit s sent
Refuses-within w whole name limit s sent h (inl (may, is, line)) = inl (MayFail-within w whole name h may, is, line)
Refuses-within w whole name limit s sent h (inr ((over, rose), is, line)) =
    inr ((subst (λ (t : List ℕ → Told). OnFile (t name) (λ file. limit < length file)) h.told over, RoseBy-within _ _ _ _ _ h.taken_before h.taken_after rose), is, line)

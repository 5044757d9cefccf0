-- No answer says that the output failed.
use Rattle.std.proofs.Common.{◌≡◌, ℕ, Bool, List, inl, inr, ap, sym, ◌∙◌, arith}
use Rattle.apply_model.specs.declared.status.Status as applied
use Rattle.apply_model.specs.declared.status.Status.TheVariants as verdict
use Rattle.image_model.specs.Image.{ImageOf}
use Rattle.run_model.specs.Values.{Outcome, done, failed, spent}
use Rattle.run_model.specs.Runs.{run}
use Rattle.query_model.specs.Queries.{QueryOf}
use Rattle.command_words.specs.Forms.{Form, Apply, Changes, Why, Team, Import, Format, Run, Find, Strip, Search, Rewrite, Demo, Help, Version, NoForm, form_of}
use Rattle.image_forms.specs.declared.status.Status.{Status}
use Rattle.image_forms.specs.declared.status.Status.TheVariants as status
use Rattle.image_forms.specs.Statuses.{number_of}
use Rattle.image_forms.specs.Loads.{World, Loads, Given, Refused, Refuses}
use Rattle.image_forms.specs.Answers.{status_applied, Applies, Explains, PlaysLog, WritesChanges, Imports, NotImported, Imported, Formats, Formatted, Refused as Stopped, status_of, RunsIn, NoDoIt, Ran, Runs, NoImage, InImage, Finds, NoImageThere, Found, StripsIn, NoStart, Stripped, Strips, NoImageToStrip, StripsImage, OfImage, Unread, Read, SearchesIn, NoPattern, Matched, RewritesIn, NoRule, NoReplacement, Rewritten, ChangesIn, Unchanged, Changed, DemosIn, NoExpression, Shown, AnswersForm, Answers, image_limit, script_limit}

-- the status does not say that the output failed
abbrev IsOther : Status → Type 0
IsOther s = ¬ (number_of s ≡ 6)

other : (s t : Status) → s ≡ t → IsOther t → IsOther s
other s t is unlike e = unlike (sym (ap number_of is) ∙ e)

refuses : (w : World) (name : List ℕ) (limit : ℕ) (s : Status) (x : List ℕ) → Refuses w name limit s x → IsOther s
refuses w name limit s x (inl (may, is, line)) = other s status.Read is (λ e. omega (arith, e))
refuses w name limit s x (inr (large, is, line)) = other s status.TooLarge is (λ e. omega (arith, e))

loads : (w : World) (name : List ℕ) (limit : ℕ) (s : Status) (x : List ℕ) (P : List ℕ → Type 0) → ((bytes : List ℕ) → P bytes → IsOther s) → Loads w name limit s x P → IsOther s
loads w name limit s x P next (Given bytes may p) = next bytes p
loads w name limit s x P next (Refused r) = refuses w name limit s x r

verdict_other : (v : applied.Status) → IsOther (status_applied v)
verdict_other verdict.Done e = omega (arith, e)
verdict_other verdict.Condition e = omega (arith, e)
verdict_other verdict.ImageText e = omega (arith, e)
verdict_other verdict.ScriptText e = omega (arith, e)

applies : (text script : List ℕ) (s : Status) (x : List ℕ) → Applies text script s x → IsOther s
applies text script s x a = other s (status_applied a.verdict) a.status (verdict_other a.verdict)

writes : (text script : List ℕ) (s : Status) (x : List ℕ) → WritesChanges text script s x → IsOther s
writes text script s x a = other s (status_applied a.verdict) a.status (verdict_other a.verdict)

explains : (text script : List ℕ) (s : Status) (x : List ℕ) → Explains text script s x → IsOther s
explains text script s x a = other s (status_applied a.verdict) a.status (verdict_other a.verdict)

plays : (text log : List ℕ) (s : Status) (x : List ℕ) → PlaysLog text log s x → IsOther s
plays text log s x p = other s (status_applied p.verdict) p.status (verdict_other p.verdict)

imports : (text : List ℕ) (s : Status) (x : List ℕ) → Imports text s x → IsOther s
imports text s x (NotImported r wrong is line) = other s status.ImageText is (λ e. omega (arith, e))
imports text s x (Imported made is) = other s status.Done is (λ e. omega (arith, e))

formats : (text : List ℕ) (s : Status) (x : List ℕ) → Formats text s x → IsOther s
formats text s x (Stopped r wrong is line) = other s status.ImageText is (λ e. omega (arith, e))
formats text s x (Formatted i read is line) = other s status.Done is (λ e. omega (arith, e))

outcome_other : (o : Outcome) → IsOther (status_of o)
outcome_other (done v) e = omega (arith, e)
outcome_other (failed f) e = omega (arith, e)
outcome_other spent e = omega (arith, e)

runs_in : (i : ImageOf (List ℕ)) (expression : List ℕ) (budget : ℕ) (s : Status) (x : List ℕ) → RunsIn i expression budget s x → IsOther s
runs_in i expression budget s x (NoDoIt f wrong is line) = other s status.ScriptText is (λ e. omega (arith, e))
runs_in i expression budget s x (Ran j added is line) = other s (status_of (run j budget).outcome) is (outcome_other (run j budget).outcome)

runs : (text expression : List ℕ) (budget : ℕ) (s : Status) (x : List ℕ) → Runs text expression budget s x → IsOther s
runs text expression budget s x (NoImage r wrong is line) = other s status.ImageText is (λ e. omega (arith, e))
runs text expression budget s x (InImage i read p) = runs_in i expression budget s x p

finds : (text : List ℕ) (q : QueryOf (List ℕ)) (s : Status) (x : List ℕ) → Finds text q s x → IsOther s
finds text q s x (NoImageThere r wrong is line) = other s status.ImageText is (λ e. omega (arith, e))
finds text q s x (Found i read lines is) = other s status.Done is (λ e. omega (arith, e))

strips_in : (i : ImageOf (List ℕ)) (expression : List ℕ) (sets : Bool) (s : Status) (x : List ℕ) → StripsIn i expression sets s x → IsOther s
strips_in i expression sets s x (NoStart f wrong is line) = other s status.ScriptText is (λ e. omega (arith, e))
strips_in i expression sets s x (Stripped j added is text) = other s status.Done is (λ e. omega (arith, e))

strips : (text expression : List ℕ) (sets : Bool) (s : Status) (x : List ℕ) → Strips text expression sets s x → IsOther s
strips text expression sets s x (NoImageToStrip r wrong is line) = other s status.ImageText is (λ e. omega (arith, e))
strips text expression sets s x (StripsImage i read p) = strips_in i expression sets s x p

of_image : (text : List ℕ) (s : Status) (x : List ℕ) (P : ImageOf (List ℕ) → Type 0) → ((i : ImageOf (List ℕ)) → P i → IsOther s) → OfImage text s x P → IsOther s
of_image text s x P next (Unread r wrong is line) = other s status.ImageText is (λ e. omega (arith, e))
of_image text s x P next (Read i read p) = next i p

searches : (i : ImageOf (List ℕ)) (pattern : List ℕ) (s : Status) (x : List ℕ) → SearchesIn i pattern s x → IsOther s
searches i pattern s x (NoPattern c wrong is line) = other s status.ScriptText is (λ e. omega (arith, e))
searches i pattern s x (Matched p says lines is) = other s status.Done is (λ e. omega (arith, e))

rewrites : (i : ImageOf (List ℕ)) (pattern replacement : List ℕ) (s : Status) (x : List ℕ) → RewritesIn i pattern replacement s x → IsOther s
rewrites i pattern replacement s x (NoRule c wrong is line) = other s status.ScriptText is (λ e. omega (arith, e))
rewrites i pattern replacement s x (NoReplacement p c says wrong is line) = other s status.ScriptText is (λ e. omega (arith, e))
rewrites i pattern replacement s x (Rewritten r said is file) = other s status.Done is (λ e. omega (arith, e))

changes : (classes : ℕ) (i : ImageOf (List ℕ)) (s : Status) (x : List ℕ) → ChangesIn classes i s x → IsOther s
changes classes i s x (Unchanged v unlike a is) = other s (status_applied v) is (verdict_other v)
changes classes i s x (Changed rs h says ok is lines) = other s status.Done is (λ e. omega (arith, e))

demos : (classes : ℕ) (i : ImageOf (List ℕ)) (s : Status) (x : List ℕ) → DemosIn classes i s x → IsOther s
demos classes i s x (NoExpression f wrong is line) = other s status.ScriptText is (λ e. omega (arith, e))
demos classes i s x (Shown j added c) = changes classes j s x c

form_other : (w : World) (form : Form) (s : Status) (x : List ℕ) → AnswersForm w form s x → IsOther s
form_other w (Apply image script) s x p = loads w image image_limit s x _ (λ i q. loads w script script_limit s x _ (λ c. applies i c s x) q) p
form_other w (Changes image script) s x p = loads w image image_limit s x _ (λ i q. loads w script script_limit s x _ (λ c. writes i c s x) q) p
form_other w (Why image script) s x p = loads w image image_limit s x _ (λ i q. loads w script script_limit s x _ (λ c. explains i c s x) q) p
form_other w (Team image log) s x p = loads w image image_limit s x _ (λ i q. loads w log script_limit s x _ (λ l. plays i l s x) q) p
form_other w (Import file) s x p = loads w file image_limit s x _ (λ i. imports i s x) p
form_other w (Format image) s x p = loads w image image_limit s x _ (λ i. formats i s x) p
form_other w (Run image expression budget) s x p = loads w image image_limit s x _ (λ i. runs i expression budget s x) p
form_other w (Find image question) s x p = loads w image image_limit s x _ (λ i. finds i question s x) p
form_other w (Strip image expression sets) s x p = loads w image image_limit s x _ (λ i. strips i expression sets s x) p
form_other w (Search image pattern) s x p = loads w image image_limit s x _ (λ t. of_image t s x _ (λ i. searches i pattern s x)) p
form_other w (Rewrite image pattern replacement) s x p = loads w image image_limit s x _ (λ t. of_image t s x _ (λ i. rewrites i pattern replacement s x)) p
form_other w (Demo number) s x p = of_image _ s x _ (λ i. demos number i s x) p
form_other w Help s x p = other s status.Done p.0 (λ e. omega (arith, e))
form_other w Version s x p = other s status.Done p.0 (λ e. omega (arith, e))
form_other w NoForm s x p = other s status.Usage p.0 (λ e. omega (arith, e))

-- so no answer is that the output failed
pub no_write : (w : World) (words : List (List ℕ)) (s : Status) (x : List ℕ) → Answers w words s x → s ≡ status.Write → ⊥
no_write w words s x p is = form_other w (form_of words) s x p (ap number_of is)

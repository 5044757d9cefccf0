-- A step keeps histories matched.
use Rattle.std.proofs.Common.{◌≡◌, List, [], ◌∷◌, Ok, sym, subst}
use Rattle.image_model.specs.Image.{DoItOf, ImageOf, plus}
use Rattle.run_model.specs.Values.{Name}
use Rattle.run_model.specs.Matched.{AreMatched}
use Rattle.std.specs.List.{AllByRecursion}
use Rattle.command_model.specs.Beside.{HasOneMore}
use Rattle.history_model.specs.Rules.{Asks, Perform, Undo, Redo}
use Rattle.history_model.specs.History.{after_action, appended, undone, redone, stepped}
use Rattle.history_model.proofs.Moves.{action-made}
use Rattle.kept_runs.specs.KeepsRuns.{IsKept}
use Rattle.kept_runs.specs.WellSpelled.{IsWellSpelledAction}
use Rattle.session_model.specs.Scripts.{Request}
use Rattle.ruled_model.specs.RuledScripts.{Asked, Line, Version, History, ruled, ruled_verdict, as_line, AdmitsRuled}
use Rattle.ruled_laws.specs.SpelledRequests.{IsSpelledAsked}
use Rattle.matched_histories.specs.MatchedHistories.{IsMatchedVersion, AreMatchedVersions}

-- a line that asks for no rule is spelled if what it asks for is
pub plainly-spelled : (x : Request) → Asks IsWellSpelledAction x → Asks IsSpelledAsked (as_line x)
plainly-spelled (Perform x) s = s
plainly-spelled Undo s = s
plainly-spelled Redo s = s

module _ (kernel first : ImageOf Name) where
  -- A version that keeps the runs of the first image does so with start expressions, by the law of scripts.
  pub version-matched : ((script : List Line) (h : History) (e : DoItOf Name) → AllByRecursion (Asks IsSpelledAsked) script → ruled_verdict first script ≡ Ok h → (a : AdmitsRuled first script e) →
      HasOneMore h.now.image a.history.now.image × (a.history.now.renaming ≡ h.now.renaming) × AreMatched (plus first e) a.history.now.image h.now.renaming) →
      (v : Version) → IsKept kernel first v → IsMatchedVersion kernel first v
  version-matched admitted v kept = record {
    kept = kept;
    expressions = λ script h e spelled o same a.
        subst (λ (w : Version). HasOneMore w.image a.history.now.image × (a.history.now.renaming ≡ w.renaming) × AreMatched (plus first e) a.history.now.image w.renaming) same
        (admitted script h e spelled o a);
  }

  -- one more version
  pub appended-matched : (h : History) (w : Version) → AreMatchedVersions kernel first h → IsMatchedVersion kernel first w → AreMatchedVersions kernel first (appended ruled h w)
  appended-matched h w all new = record { earlier = (all.now, all.earlier); now = new; later = tt }

  undone-matched : (es : List Version) (v : Version) (ls : List Version) (g : History) → AreMatchedVersions kernel first (record { earlier = es; now = v; later = ls }) →
      undone ruled (record { earlier = es; now = v; later = ls }) ≡ Ok g → AreMatchedVersions kernel first g
  undone-matched [] v ls g all o = absurd (cc)
  undone-matched (w ∷ es) v ls g all o =
      let same : record { earlier = es; now = w; later = v ∷ ls } ≡ g = cc in
      subst (AreMatchedVersions kernel first) same (record { earlier = all.earlier.1; now = all.earlier.0; later = (all.now, all.later) })

  redone-matched : (es : List Version) (v : Version) (ls : List Version) (g : History) → AreMatchedVersions kernel first (record { earlier = es; now = v; later = ls }) →
      redone ruled (record { earlier = es; now = v; later = ls }) ≡ Ok g → AreMatchedVersions kernel first g
  redone-matched es v [] g all o = absurd (cc)
  redone-matched es v (w ∷ ls) g all o =
      let same : record { earlier = v ∷ es; now = w; later = ls } ≡ g = cc in
      subst (AreMatchedVersions kernel first) same (record { earlier = (all.now, all.earlier); now = all.later.0; later = all.later.1 })

  -- one line
  pub line-matched : ((v w : Version) (x : Asked) → IsSpelledAsked x → after_action ruled v x ≡ Ok w → IsMatchedVersion kernel first v → IsMatchedVersion kernel first w) →
      (h g : History) (x : Line) → AreMatchedVersions kernel first h → Asks IsSpelledAsked x → stepped ruled h x ≡ Ok g → AreMatchedVersions kernel first g
  line-matched acts h g (Perform x) all spelled o =
      let made = action-made ruled h g x o in
      subst (AreMatchedVersions kernel first) (sym made.1) (appended-matched h g.now all (acts h.now g.now x spelled made.0 all.now))
  line-matched acts h g Undo all spelled o = undone-matched h.earlier h.now h.later g all o
  line-matched acts h g Redo all spelled o = redone-matched h.earlier h.now h.later g all o

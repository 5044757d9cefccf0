-- What is asked for in order is one entry of the history.
use Rattle.std.proofs.Common.{◌≡◌, ◌<◌, ◌≤◌, ℕ, suc, ◌+◌, List, [], ◌∷◌, length, map, drop, get_or, Option, None, Some, option_map, Result, Ok, Err, refl, sym, ap, subst, ◌∙◌, arith}
use Rattle.std.specs.Prelude.{◌≢◌}
use Rattle.std.specs.List.{AllByRecursion}
use Rattle.std.specs.Option.{option_map_or}
use Rattle.std.proofs.lemmas.List.{drop_more, drop_all, length-append}
use Rattle.rb_base.specs.Names.{name_at, text_eq}
use Rattle.run_model.specs.Values.{Name}
use Rattle.run_model.specs.Renamings.{Renaming}
use Rattle.class_table.specs.Slots.{Slots}
use Rattle.class_table.specs.View.{image_of}
use Rattle.event_trees.specs.Naming.{Grows}
use Rattle.event_trees.proofs.Known.{Grows-none, Grows-twice}
use Rattle.history_model.specs.Rules.{Perform}
use Rattle.history_model.specs.History.{by_result, after_all, after_action, appended, stepped}
use Rattle.rename_model.specs.ClassRenamed.{canonical}
use Rattle.command_model.specs.Asked.{text_asked}
use Rattle.command_model.specs.Conditions.{ConditionOf}
use Rattle.command_numbers.specs.MappedCommands.{map_condition}
use Rattle.session_model.specs.Actions.{ActionOf}
use Rattle.session_model.specs.OwnConditions.{first_own_false}
use Rattle.session_model.specs.Steps.{steps_of}
use Rattle.session_model.specs.Scripts.{Request, rules}
use Rattle.rule_model.specs.RuleCommands.{Reason, Unmet}
use Rattle.ruled_model.specs.RuledScripts.{Asked, Acts, Version, History, ruled, as_line}
use Rattle.commands.specs.Views.{condition_of}
use Rattle.commands.specs.declared.condition.Condition.{Condition}
use Rattle.reference_index.specs.Mentioned.{Mentioned}
use Rattle.proposals.specs.Proposed.{Proposed, IsNamed, asked_over, asked_in}
use Rattle.proposals.proofs.MoreNames.{named-there, asked-there, asked-later}
use Rattle.session.specs.Log.{Done}
use Rattle.session.specs.History.{version_behind}
use Rattle.session.specs.Stepping.{IsUnderWay, IsCarriedOut}
use Rattle.session.specs.Refused.{step_told, group_told}
use Rattle.session.specs.Making.{IsMadeOf}
use Rattle.session.specs.Grouping.{after_group, grouped, after_nth, IsActedOut}
use Rattle.session.specs.declared.refusal.StepRefusal.{StepRefusal}
use Rattle.session.specs.declared.refusal.StepRefusal.TheVariants as refusal
use Rattle.session.specs.declared.refusal.GroupRefusal.{GroupRefusal}
use Rattle.session.proofs.Made.{entry-wanted}

-- one action
module _ (s : Slots) (x : Mentioned) (d : Done) (action : ActionOf Name) where
  -- what becomes of it by the first of its own conditions that is false
  abbrev own : Renaming → Option (ConditionOf Name) → Result Version (ConditionOf Name)
  own r o = option_map_or (λ q. Err q) o (after_all rules (version_behind s r d.commands) (steps_of text_eq (image_of s) canonical action))

  pub acted-false : (q : Condition) → first_own_false text_asked (image_of s) action ≡ Some (map_condition (name_at s.names) (condition_of q)) → IsActedOut s x d action s x d (Err (refusal.Condition q))
  acted-false q e = record {
    under_way = λ begin is. is;
    names = refl;
    done = tt;
    refused = λ c same r.
        let is : q ≡ c = cc in
        ap (own r) e ∙ ap (λ (b : Condition). Err (map_condition (name_at s.names) (condition_of b))) is;
  }

  pub acted-wanting : IsActedOut s x d action s x d (Err refusal.Memory)
  acted-wanting = record { under_way = λ begin is. is; names = refl; done = tt; refused = λ c same. cc }

  pub acted-steps : (t : Slots) (y : Mentioned) (e : Done) (result : Result (Unit {0}) StepRefusal) → first_own_false text_asked (image_of s) action ≡ None
      → IsCarriedOut s x d (steps_of text_eq (image_of s) canonical action) t y e result → IsActedOut s x d action t y e result
  acted-steps t y e (Ok u) none is = record { under_way = is.under_way; names = is.names; done = λ r. ap (own r) none ∙ is.done r; refused = tt }
  acted-steps t y e (Err q) none is = record { under_way = is.under_way; names = is.names; done = tt; refused = λ c same r. ap (own r) none ∙ is.refused c same r }

-- what a line makes of a history that asks for no rule
abbrev pub WithoutRules : Type 0
WithoutRules = (h : History) (x : Request) → stepped ruled h (as_line x) ≡ by_result (λ g. Ok g) (λ q. Err (Unmet q)) (stepped rules h x)

-- a condition that is false, as a reason
abbrev with_reason : Result Version (ConditionOf Name) → Result Version Reason
with_reason o = by_result (λ w. Ok w) (λ q. Err (Unmet q)) o

module _ (law : WithoutRules) (v : Version) (action : ActionOf Name) where
  abbrev alone : History
  alone = record { earlier = []; now = v; later = [] }

  abbrev last : Result History Reason → Result Version Reason
  last o = by_result (λ h. Ok h.now) (λ q. Err q) o

  last-made : (o : Result Version Reason) → last (by_result (λ w. Ok (appended ruled alone w)) (λ q. Err q) o) ≡ o
  last-made (Ok w) = refl
  last-made (Err q) = refl

  last-acted : (o : Result Version (ConditionOf Name)) → last (by_result (λ g. Ok g) (λ q. Err (Unmet q)) (by_result {A = Version} {B = Result History (ConditionOf Name)} (λ w. Ok (appended rules alone w)) (λ q. Err q) o)) ≡ with_reason o
  last-acted (Ok w) = refl
  last-acted (Err q) = refl

  -- what is asked for without a rule comes to the same
  acts-same : after_action ruled v (Acts action) ≡ with_reason (after_action rules v action)
  acts-same = sym (last-made (after_action ruled v (Acts action))) ∙ ap last (law alone (Perform action)) ∙ last-acted (after_action rules v action)

-- an action is made, or refused
module _ (law : WithoutRules) (s : Slots) (x : Mentioned) (d : Done) (action : ActionOf Name) (t : Slots) (y : Mentioned) (e : Done) where
  abbrev acting : Version → Result Version Reason
  acting v = after_action ruled v (Acts action)

  acted-grows : t.names ≡ s.names → Grows s.names t.names
  acted-grows same = subst (Grows s.names) (sym same) (Grows-none s.names)

  pub acted-made : (result : Result (Unit {0}) StepRefusal) → IsActedOut s x d action t y e result → IsMadeOf s x d acting t y e step_told result
  acted-made (Ok u) is = record {
    under_way = is.under_way;
    names = acted-grows is.names;
    done = λ r. acts-same law (version_behind s r d.commands) action ∙ ap with_reason (is.done r);
    refused = tt;
  }
  acted-made (Err (refusal.Condition c)) is = record {
    under_way = is.under_way;
    names = acted-grows is.names;
    done = tt;
    refused = λ q told r.
        let one : Unmet (map_condition (name_at t.names) (condition_of c)) ≡ q = cc in
        acts-same law (version_behind s r d.commands) action ∙ ap with_reason (is.refused c refl r)
        ∙ (λ i. Err (Unmet (map_condition (name_at (sym is.names i)) (condition_of c)))) ∙ ap {B = Result Version Reason} (λ w. Err w) one;
  }
  acted-made (Err refusal.Memory) is = record {
    under_way = is.under_way;
    names = acted-grows is.names;
    done = tt;
    refused = λ q told. absurd (cc);
  }

-- what is made has a number
abbrev numbered : ℕ → Result Version Reason → Result Version (ℕ × Reason)
numbered n o = by_result (λ w. Ok w) (λ q. Err (n, q)) o

told-numbered : (n : ℕ) (o : Option Reason) (w : ℕ × Reason) → option_map (λ q. (n, q)) o ≡ Some w → (q : Reason) × (o ≡ Some q) × ((n, q) ≡ w)
told-numbered n None w is = absurd (cc)
told-numbered n (Some q) w is = let one : (n, q) ≡ w = cc in (q, refl, one)

module _ {E : Type 0} (n : ℕ) (a : Asked) (s : Slots) (x : Mentioned) (d : Done) (t : Slots) (y : Mentioned) (e : Done) (told : List (List ℕ) → E → Option Reason) where
  abbrev asking : Version → Result Version Reason
  asking v = after_action ruled v a

  pub nth-made : IsMadeOf s x d asking t y e told (Ok tt) → IsMadeOf s x d (after_nth n a) t y e group_told (Ok tt)
  nth-made made = record { under_way = made.under_way; names = made.names; done = λ r. ap (numbered n) (made.done r); refused = tt }

  pub nth-refused : (f : E) (g : GroupRefusal) → ((names : List (List ℕ)) → group_told names g ≡ option_map (λ q. (n, q)) (told names f)) → IsMadeOf s x d asking t y e told (Err f)
      → IsMadeOf s x d (after_nth n a) t y e group_told (Err g)
  nth-refused f g at made = record {
    under_way = made.under_way;
    names = made.names;
    done = tt;
    refused = λ w is r.
        let why = told-numbered n (told t.names f) w (sym (at t.names) ∙ is) in
        ap (numbered n) (made.refused why.0 why.1 r) ∙ ap {B = Result Version (ℕ × Reason)} (λ z. Err z) why.2;
  }

-- what is proposed as far as a number of it
pub record IsAmid (s : Slots) (x : Mentioned) (d : Done) (all : List Proposed) (k : ℕ) (t : Slots) (y : Mentioned) (e : Done) : Type 0 where
  pub under_way : (first : Slots) → IsUnderWay first s x d → IsUnderWay first t y e
  pub names : Grows s.names t.names
  pub left : (r : Renaming) → after_group (suc k) (version_behind t r e.commands) (map (asked_in s.names) (drop k all)) ≡ after_group 1 (version_behind s r d.commands) (map (asked_in s.names) all)

pub amid-none : (s : Slots) (x : Mentioned) (d : Done) (all : List Proposed) → IsAmid s x d all 0 s x d
amid-none s x d all = record { under_way = λ begin is. is; names = Grows-none s.names; left = λ r. refl }

module _ (s : Slots) (x : Mentioned) (d : Done) (all : List Proposed) (k : ℕ) (p : Proposed) (h : k < length all) (at : p ≡ get_or all k p) where
  from-there : drop k all ≡ p ∷ drop (k + 1) all
  from-there = drop_more all k p h ∙ ap (λ (z : Proposed). z ∷ drop (k + 1) all) (sym at)

  known-here : (count : ℕ) → AllByRecursion (λ (q : Proposed). q.names ≤ count) (drop k all) → p.names ≤ count
  known-here count known = (subst (AllByRecursion (λ (q : Proposed). q.names ≤ count)) from-there known).0

  pub known-next : (count : ℕ) → AllByRecursion (λ (q : Proposed). q.names ≤ count) (drop k all) → AllByRecursion (λ (q : Proposed). q.names ≤ count) (drop (k + 1) all)
  known-next count known = (subst (AllByRecursion (λ (q : Proposed). q.names ≤ count)) from-there known).1

  module _ (t : Slots) (y : Mentioned) (e : Done) (amid : IsAmid s x d all k t y e) (known : AllByRecursion (λ (q : Proposed). q.names ≤ length s.names) (drop k all)) (named : IsNamed p.names p.asked) where
    among : p.names ≤ length s.names
    among = known-here (length s.names) known

    among-there : p.names ≤ length t.names
    among-there = omega (arith, among, ap length amid.names.grown, length-append s.names amid.names.more)

    -- the next has its names in the table
    pub named-next : IsNamed (length t.names) p.asked
    named-next = named-there t.names p among-there named

    asked-next : asked_over t.names p.asked ≡ asked_in s.names p
    asked-next = asked-there t.names p among-there named ∙ asked-later s.names p among t.names amid.names

    -- what is left if it comes to this
    abbrev rest : Result Version (ℕ × Reason) → Result Version (ℕ × Reason)
    rest o = by_result (λ w. after_group (suc k + 1) w (map (asked_in s.names) (drop (k + 1) all))) (λ q. Err q) o

    rest-numbered : (o : Result Version Reason) → rest (numbered (suc k) o) ≡ by_result (λ w. after_group (suc k + 1) w (map (asked_in s.names) (drop (k + 1) all))) (λ q. Err (suc k, q)) o
    rest-numbered (Ok w) = refl
    rest-numbered (Err q) = refl

    module _ (n : ℕ) (number : n ≡ k + 1) where
      the-number : n ≡ suc k
      the-number = omega (arith, number)

      left-here : (r : Renaming) → rest (after_nth n (asked_over t.names p.asked) (version_behind t r e.commands)) ≡ after_group 1 (version_behind s r d.commands) (map (asked_in s.names) all)
      left-here r =
          (λ i. rest (after_nth (the-number i) (asked-next i) (version_behind t r e.commands)))
          ∙ rest-numbered (after_action ruled (version_behind t r e.commands) (asked_in s.names p))
          ∙ sym (ap (λ (ps : List Proposed). after_group (suc k) (version_behind t r e.commands) (map (asked_in s.names) ps)) from-there)
          ∙ amid.left r

      -- after one that is made
      pub amid-next : (u : Slots) (z : Mentioned) (f : Done) → IsMadeOf t y e (after_nth n (asked_over t.names p.asked)) u z f group_told (Ok tt) → IsAmid s x d all (k + 1) u z f
      amid-next u z f made = record {
        under_way = λ begin w. made.under_way begin (amid.under_way begin w);
        names = Grows-twice amid.names made.names;
        left = λ r.
            ap (λ (m : ℕ). after_group m (version_behind u r f.commands) (map (asked_in s.names) (drop (k + 1) all))) (omega arith)
            ∙ sym (ap rest (made.done r)) ∙ left-here r;
      }

      -- at one that is refused
      pub amid-refused : (u : Slots) (z : Mentioned) (f : Done) (g : GroupRefusal) → IsMadeOf t y e (after_nth n (asked_over t.names p.asked)) u z f group_told (Err g)
          → IsMadeOf s x d (λ v. after_group 1 v (map (asked_in s.names) all)) u z f group_told (Err g)
      amid-refused u z f g made = record {
        under_way = λ begin w. made.under_way begin (amid.under_way begin w);
        names = Grows-twice amid.names made.names;
        done = tt;
        refused = λ q told r. sym (left-here r) ∙ ap rest (made.refused q told r);
      }

-- all of it
pub amid-all : (s : Slots) (x : Mentioned) (d : Done) (all : List Proposed) (k : ℕ) (t : Slots) (y : Mentioned) (e : Done) → length all ≤ k → IsAmid s x d all k t y e
    → IsMadeOf s x d (λ v. after_group 1 v (map (asked_in s.names) all)) t y e group_told (Ok tt)
amid-all s x d all k t y e h amid = record {
  under_way = amid.under_way;
  names = amid.names;
  done = λ r. sym (amid.left r) ∙ ap (λ (ps : List Proposed). after_group (suc k) (version_behind t r e.commands) (map (asked_in s.names) ps)) (drop_all k all h);
  refused = tt;
}

-- if something is proposed, it is one entry
pub grouped-some : (names : List (List ℕ)) (h : History) (ps : List Proposed) → ps ≢ [] → entry-wanted h (after_group 1 h.now (map (asked_in names) ps)) ≡ grouped h (map (asked_in names) ps)
grouped-some names h [] some = absurd (some refl)
grouped-some names h (p ∷ ps) some = refl

-- nothing that is proposed changes nothing
pub grouped-none : (names : List (List ℕ)) (h : History) (ps : List Proposed) → length ps ≡ 0 → grouped h (map (asked_in names) ps) ≡ Ok h
grouped-none names h [] e = refl
grouped-none names h (p ∷ ps) e = absurd (omega (arith, e))

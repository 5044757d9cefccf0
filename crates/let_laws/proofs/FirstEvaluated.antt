-- A part that is evaluated first is read first where a name stands in its place.
use Rattle.std.proofs.Common.{◌≡◌, ℕ, zero, suc, ◌+◌, ◌-◌, List, ◌∷◌, length, Some, option_map, refl, sym, ap, ◌∙◌, subst, arith}
use Rattle.std.specs.Prelude.{Bool, true, false, not, ◌&&◌, ◌==◌, if◌then◌else◌, nat_lt, unwrap_or}
use Rattle.std.specs.Option.{option_map_or}
use Rattle.std.proofs.lemmas.Bool.{false≢true, ltb-true, lt-ltb}
use Rattle.tree_model.specs.Tree.{TreeOf, var, literal, send, cascade, assign, block, brace, return, TreesOf, no_trees, more_trees, MessagesOf, no_messages, more_messages}
use Rattle.tree_model.specs.Path.{append, count, nth, all_arguments, child, children, with_nth, with_argument, with_child, replaced}
use Rattle.tree_model.proofs.Children.{nth-with_nth, nth-append_left}
use Rattle.tree_model.proofs.Parts.{replaced-part_at}
use Rattle.scope_model.specs.declared.local.ControlForm.{ControlForm}
use Rattle.scope_model.specs.declared.local.ControlForm.TheVariants.{OneBlock, TwoBlocks, Loop, NoControl}
use Rattle.scope_model.specs.Control.{is_plain_block, are_plain_blocks, meets, is_loop, is_control, steps_in_place, is_block, is_closure_at}
use Rattle.scope_model.specs.SpecialNames.{control_form}
use Rattle.image_model.specs.Image.{EntryOf, ImageOf}
use Rattle.image_model.specs.Means.{MeaningOf}
use Rattle.run_model.specs.Values.{Name}
use Rattle.run_model.proofs.Finite.{by_cases, and-true_left, and-true_right}
use Rattle.resolved_model.specs.Environments.{Declared}
use Rattle.unfolded_places.proofs.Replaced.{meets-same, block-replaced}
use Rattle.command_model.specs.Asked.{text_asked}
use Rattle.command_model.specs.Plain.{is_plain}
use Rattle.code_command_laws.specs.Round.{IsOpen, open_here, open_step}
use Rattle.code_command_laws.proofs.PartRound.{open-leads}
use Rattle.code_command_laws.specs.Before.{is_before_sends, are_first_plain, is_plain_before}
use Rattle.let_laws.specs.ReadsFirst.{IsWithout, AreWithout, MessagesWithout, IsSimple, ReadsFirst, reads_here, by_receiver, by_argument, by_cascade, by_first_message, by_assignment, by_item, by_return, ReadsFirstAmong, by_this, by_later}

-- the part is no block that is run in place, where the flag says that of the node to which the empty path leads
abbrev pub IsNotInPlace : Bool → TreeOf Name → List ℕ → TreeOf Name → Type 0
IsNotInPlace b t path part = (is_block part && not (is_closure_at control_form b t path)) ≡ false

-- a node that is no block
no-block : (t : TreeOf Name) → is_block t ≡ false → is_plain_block t ≡ false
no-block (var n) e = refl
no-block (literal l) e = refl
no-block (send r s args) e = refl
no-block (cascade r ms) e = refl
no-block (assign n t) e = refl
no-block (block ps ts ss k) e = absurd (false≢true (sym e))
no-block (brace ts) e = refl
no-block (return t) e = refl

some-block : (t : TreeOf Name) → is_plain_block t ≡ true → is_block t ≡ true
some-block (var n) e = absurd (false≢true e)
some-block (literal l) e = absurd (false≢true e)
some-block (send r s args) e = absurd (false≢true e)
some-block (cascade r ms) e = absurd (false≢true e)
some-block (assign n t) e = absurd (false≢true e)
some-block (block ps ts ss k) e = refl
some-block (brace ts) e = absurd (false≢true e)
some-block (return t) e = absurd (false≢true e)

-- with a name in place of the part a node is no block
name-no_block : (x : Name) {part t : TreeOf Name} {path : List ℕ} → IsOpen part t path → is_plain_block (replaced t path (var x)) ≡ false
name-no_block x open_here = refl
name-no_block x {part} (open_step {t = t} {k = k} {ks = ks} plain e p) =
    block-replaced t k ks (var x) part ∙ ap is_plain_block (replaced-part_at t (k ∷ ks) part (open-leads (open_step plain e p))) ∙ no-block t plain

-- a part that is a block is not run in place
not-run : (b : Bool) {part t : TreeOf Name} {path : List ℕ} → IsOpen part t path → IsNotInPlace b t path part → is_plain_block t ≡ true → b ≡ false
not-run b {part} open_here h e = by b (is_block part) (some-block part e) h
  where
    by : (b c : Bool) → c ≡ true → (c && not (c && not b)) ≡ false → b ≡ false
    by false c q h = refl
    by true true q h = absurd (false≢true (sym h))
    by true false q h = absurd (false≢true q)
not-run b (open_step {t = t} plain e p) h q = absurd (false≢true (sym (no-block t plain) ∙ q))

-- arguments of which one is no block make no control send
and-false : (b : Bool) → (b && false) ≡ false
and-false true = refl
and-false false = refl

pub not-all : (ts : TreesOf Name) (k : ℕ) (c : TreeOf Name) → nth ts k ≡ Some c → is_plain_block c ≡ false → are_plain_blocks ts ≡ false
not-all no_trees k c e h = absurd (cc)
not-all (more_trees t ts) zero c e h = ap (λ b. b && are_plain_blocks ts) (ap is_plain_block (same e) ∙ h)
  where
    same : Some t ≡ Some c → t ≡ c
    same q = cc
not-all (more_trees t ts) (suc k) c e h = ap (λ b. is_plain_block t && b) (not-all ts k c e h) ∙ and-false (is_plain_block t)

pub no-meeting : (form : ControlForm) (r : TreeOf Name) (args : TreesOf Name) → are_plain_blocks args ≡ false → meets form r args ≡ false
no-meeting OneBlock r args h = ap (λ b. (count args == 1) && b) h ∙ and-false (count args == 1)
no-meeting TwoBlocks r args h = ap (λ b. (count args == 2) && b) h ∙ and-false (count args == 2)
no-meeting Loop r args h = ap (λ b. is_plain_block r && ((count args == 1) && b)) h ∙ ap (λ b. is_plain_block r && b) (and-false (count args == 1)) ∙ and-false (is_plain_block r)
no-meeting NoControl r args h = refl

argument-message : (r : TreeOf Name) (s : Name) (args : TreesOf Name) (k : ℕ) (c : TreeOf Name) → nth args k ≡ Some c → (is_plain_block c ≡ true → steps_in_place control_form (send r s args) (suc k) ≡ false) → is_control control_form (send r s args) ≡ false
argument-message r s args k c e h = by_cases (is_plain_block c) h (λ f. no-meeting (control_form s) r args (not-all args k c e f))

-- a receiver that comes in place of a name makes no control send, where it is not run in place
receiver-message : (c c' : TreeOf Name) (s : Name) (args : TreesOf Name) → is_plain_block c' ≡ false → (is_plain_block c ≡ true → steps_in_place control_form (send c s args) 0 ≡ false) → meets (control_form s) c' args ≡ false → meets (control_form s) c args ≡ false
receiver-message c c' s args n h e = by_cases (is_plain_block c) (λ t. by (control_form s) (h t) e) (λ f. meets-same (control_form s) c c' args args (f ∙ sym n) refl refl ∙ e)
  where
    by : (form : ControlForm) → (is_loop form && meets form c args) ≡ false → meets form c' args ≡ false → meets form c args ≡ false
    by OneBlock h e = e
    by TwoBlocks h e = e
    by Loop h e = h
    by NoControl h e = refl

module _ (i : ImageOf Name) (m : EntryOf Name) (path : List ℕ) (f : Name → MeaningOf Name) (A : List Declared) (x : Name) (part : TreeOf Name) (plain : (t : TreeOf Name) → IsWithout x t → is_plain text_asked i m path t ≡ true → IsSimple f A x t) where
  some-same : {t c : TreeOf Name} → Some t ≡ Some c → t ≡ c
  some-same q = cc

  -- trees of which one reads first
  first-among : (n : ℕ) (ts : TreesOf Name) (k : ℕ) (c c' : TreeOf Name) → nth ts k ≡ Some c → AreWithout x ts → are_first_plain text_asked i m path k ts ≡ true → ReadsFirst f A x part n c' c → ReadsFirstAmong f A x part n (with_nth ts k c') ts
  first-among n no_trees k c c' e w h p = absurd (cc)
  first-among n (more_trees t ts) zero c c' e w h p = by_this ts w.1 (subst (λ z. ReadsFirst f A x part n c' z) (sym (some-same e)) p)
  first-among n (more_trees t ts) (suc k) c c' e w h p = by_later t (plain t w.0 (and-true_left (is_plain text_asked i m path t) _ h)) (first-among n ts k c c' e w.1 (and-true_right (is_plain text_asked i m path t) _ h) p)

  -- the first of further trees
  first-left : (ts us : TreesOf Name) (k : ℕ) → nat_lt k (count ts) ≡ true → are_first_plain text_asked i m path k (append ts us) ≡ true → are_first_plain text_asked i m path k ts ≡ true
  first-left ts us zero l h = refl
  first-left no_trees us (suc k) l h = refl
  first-left (more_trees t ts) us (suc k) l h = (λ j. and-true_left (is_plain text_asked i m path t) _ h j && first-left ts us k (lt-ltb k (count ts) (let g = ltb-true (suc k) (count ts + 1) l in omega arith)) (and-true_right (is_plain text_asked i m path t) _ h) j)

  messages-first : (n : ℕ) (r : TreeOf Name) (ms : MessagesOf Name) (k : ℕ) (c c' : TreeOf Name) → is_before_sends (cascade r ms) (suc k) ≡ true → nth (all_arguments ms) k ≡ Some c → IsWithout x (cascade r ms) →
      are_first_plain text_asked i m path (suc k) (more_trees r (all_arguments ms)) ≡ true → ReadsFirst f A x part n c' c → ReadsFirst f A x part (suc n) (cascade r (with_argument ms k c')) (cascade r ms)
  messages-first n r no_messages k c c' b e w h p = absurd (cc)
  messages-first n r (more_messages s args ms) k c c' b e w h p =
      subst (λ (z : Bool). ReadsFirst f A x part (suc n) (cascade r (if z then more_messages s (with_nth args k c') ms else more_messages s args (with_argument ms (k - count args) c'))) (cascade r (more_messages s args ms))) (sym less)
      (by_first_message r s ms (plain r w.0 (and-true_left (is_plain text_asked i m path r) _ h)) w.1.1
      (first-among n args k c c' (sym (nth-append_left args (all_arguments ms) k (ltb-true k (count args) less)) ∙ e) w.1.0 (first-left args (all_arguments ms) k less (and-true_right (is_plain text_asked i m path r) _ h)) p))
    where
      less : nat_lt k (count args) ≡ true
      less = lt-ltb k (count args) (let g = ltb-true (suc k) (suc (count args)) b in omega arith)

  -- by the kind of the node
  node-first : (n : ℕ) (t : TreeOf Name) (k : ℕ) (c c' : TreeOf Name) → is_block t ≡ false → child t k ≡ Some c → IsWithout x t → is_plain_block c' ≡ false → (is_plain_block c ≡ true → steps_in_place control_form t k ≡ false) → is_before_sends t k ≡ true →
      are_first_plain text_asked i m path k (children t) ≡ true → ReadsFirst f A x part n c' c → ReadsFirst f A x part (suc n) (with_child t k c') t
  node-first n (var y) k c c' o e w b g s h p = absurd (cc)
  node-first n (literal l) k c c' o e w b g s h p = absurd (cc)
  node-first n (send r z args) zero c c' o e w b g s h p =
      subst (λ y. ReadsFirst f A x part (suc n) (send c' z args) (send y z args)) (sym (some-same e))
      (by_receiver z args (receiver-message c c' z args b (λ q. subst (λ y. steps_in_place control_form (send y z args) 0 ≡ false) (some-same e) (g q))) w.1 p)
  node-first n (send r z args) (suc k) c c' o e w b g s h p =
      by_argument r z (plain r w.0 (and-true_left (is_plain text_asked i m path r) _ h)) (no-meeting (control_form z) r (with_nth args k c') (not-all (with_nth args k c') k c' (nth-with_nth args k c c' e) b)) (argument-message r z args k c e g)
      (first-among n args k c c' e w.1 (and-true_right (is_plain text_asked i m path r) _ h) p)
  node-first n (cascade r ms) zero c c' o e w b g s h p = subst (λ y. ReadsFirst f A x part (suc n) (cascade c' ms) (cascade y ms)) (sym (some-same e)) (by_cascade ms w.1 p)
  node-first n (cascade r ms) (suc k) c c' o e w b g s h p = messages-first n r ms k c c' s e w h p
  node-first n (assign y t) zero c c' o e w b g s h p = subst (λ z. ReadsFirst f A x part (suc n) (assign y c') (assign y z)) (sym (some-same e)) (by_assignment y w.0 p)
  node-first n (assign y t) (suc k) c c' o e w b g s h p = absurd (cc)
  node-first n (block ps ts ss k') k c c' o e w b g s h p = absurd (false≢true (sym o))
  node-first n (brace ts) k c c' o e w b g s h p = by_item (first-among n ts k c c' e w h p)
  node-first n (return t) zero c c' o e w b g s h p = subst (λ z. ReadsFirst f A x part (suc n) (return c') (return z)) (sym (some-same e)) (by_return p)
  node-first n (return t) (suc k) c c' o e w b g s h p = absurd (cc)

  nth-without : (ts : TreesOf Name) (k : ℕ) (c : TreeOf Name) → nth ts k ≡ Some c → AreWithout x ts → IsWithout x c
  nth-without no_trees k c e w = absurd (cc)
  nth-without (more_trees t ts) zero c e w = subst (IsWithout x) (some-same e) w.0
  nth-without (more_trees t ts) (suc k) c e w = nth-without ts k c e w.1

  append-without : (ts us : TreesOf Name) → AreWithout x ts → AreWithout x us → AreWithout x (append ts us)
  append-without no_trees us v w = w
  append-without (more_trees t ts) us v w = (v.0, append-without ts us v.1 w)

  messages-all : (ms : MessagesOf Name) → MessagesWithout x ms → AreWithout x (all_arguments ms)
  messages-all no_messages w = tt
  messages-all (more_messages s args ms) w = append-without args (all_arguments ms) w.0 (messages-all ms w.1)

  children-without : (t : TreeOf Name) → is_block t ≡ false → IsWithout x t → AreWithout x (children t)
  children-without (var y) o w = tt
  children-without (literal l) o w = tt
  children-without (send r z args) o w = w
  children-without (cascade r ms) o w = (w.0, messages-all ms w.1)
  children-without (assign y t) o w = (w.1, tt)
  children-without (block ps ts ss k) o w = absurd (false≢true (sym o))
  children-without (brace ts) o w = w
  children-without (return t) o w = (w, tt)

  -- a node that evaluates nothing but plain expressions before the part
  pub first-evaluated : {t : TreeOf Name} {ks : List ℕ} → IsOpen part t ks → (b : Bool) → IsNotInPlace b t ks part → IsWithout x t → is_plain_before text_asked i m path t ks ≡ true → ReadsFirst f A x part (length ks) (replaced t ks (var x)) t
  first-evaluated open_here b g w h = reads_here
  first-evaluated (open_step {t = t} {c = c} {k = k} {ks = ks} o e p) b g w h =
      subst (λ z. ReadsFirst f A x part (suc (length ks)) (unwrap_or (option_map (λ y. with_child t k (replaced y ks (var x))) z) t) t) (sym e)
      (node-first (length ks) t k c (replaced c ks (var x)) o e w (name-no_block x p) (not-run (steps_in_place control_form t k) p lower) (and-true_left (is_before_sends t k) _ h) (and-true_left (are_first_plain text_asked i m path k (children t)) _ (and-true_right (is_before_sends t k) _ h))
      (first-evaluated p (steps_in_place control_form t k) lower (nth-without (children t) k c e (children-without t o w)) before))
    where
      lower : IsNotInPlace (steps_in_place control_form t k) c ks part
      lower = subst (λ z. (is_block part && not (unwrap_or (option_map (λ y. is_closure_at control_form (steps_in_place control_form t k) y ks) z) false)) ≡ false) e g

      before : is_plain_before text_asked i m path c ks ≡ true
      before = subst (λ z. option_map_or (λ y. is_plain_before text_asked i m path y ks) z false ≡ true) e (and-true_right (are_first_plain text_asked i m path k (children t)) _ (and-true_right (is_before_sends t k) _ h))

  -- what a part has not that its node has not
  pub open-without : {t : TreeOf Name} {ks : List ℕ} → IsOpen part t ks → IsWithout x t → IsWithout x part
  open-without open_here w = w
  open-without (open_step {t = t} {c = c} {k = k} o e p) w = open-without p (nth-without (children t) k c e (children-without t o w))

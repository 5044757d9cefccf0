-- Code of the user looks at the program itself exactly where one of the reflective names is found in it.
use Rattle.std.proofs.Common.{◌≡◌, ◌⊎◌, inl, inr, ℕ, zero, suc, ◌<◌, ◌||◌, not, Bool, true, false, List, [], ◌∷◌, length, Option, None, Some, slice_get, refl, sym, ap, subst, ◌∙◌, true≢false}
use Rattle.std.specs.Prelude.{Contains, nat_eq, codes, All}
use Rattle.std.specs.List.{list_any, AllByRecursion}
use Rattle.std.specs.Option.{option_map_or}
use Rattle.std.proofs.lemmas.Bool.{or_cases, or_left, or_right, and_parts, and_from}
use Rattle.std.proofs.lemmas.Bool.Decides.{Decides-eqb}
use Rattle.std.proofs.lemmas.Slice.Eq.{slice_eq-Decides}
use Rattle.std.proofs.lemmas.List.Quantifiers.{position-Some}
use Rattle.std.proofs.lemmas.Option.{unwrap_or-slice_get}
use Rattle.rb_base.specs.Names.{text_eq, number_in, name_at}
use Rattle.rb_base.proofs.NamesLemmas.{text_eq-refl}
use Rattle.tree_model.specs.Tree.{TreeOf, var, literal, send, cascade, assign, block, brace, return, MessagesOf, no_messages, more_messages, SequenceOf, MethodOf}
use Rattle.tree_model.specs.AllNames.{SequenceNames, MethodNames}
use Rattle.tree_model.specs.Nodes.{Placed, nodes}
use Rattle.st_kernel.specs.Selectors.{reflective_selectors, is_reflective_selector}
use Rattle.image_model.specs.Image.{EntryOf, DoItOf, ImageOf}
use Rattle.image_model.specs.ImageNames.{EntryNames, DoItNames}
use Rattle.image_model.specs.Uses.{has_message, is_sender, name_used}
use Rattle.image_model.proofs.Ends.{place-contains}
use Rattle.rename_model.specs.CommandWords.{CommandWordsOf}
use Rattle.rename_model.specs.Conditions.{has_message_that, sends_one_that, is_reflective, reflects, method_reflects, has_no_reflection}
use Rattle.command_model.specs.Numbers.{number_command_words}
use Rattle.class_table.specs.Slots.{Slots}
use Rattle.class_table.specs.View.{number_image}
use Rattle.class_table.specs.Valid.{IsOrderly}
use Rattle.class_table.proofs.Live.{eqb-refl, eqb-equal}
use Rattle.name_meanings.proofs.Numbers.{without_number, with_number}
use Rattle.mentions.specs.Mentions.{own_names, code_names}
use Rattle.mentions.proofs.Complete.{All-SequenceNames}
use Rattle.mentions.proofs.Listed.{listed-own, own-used, own-sent}
use Rattle.code_questions.specs.declared.question.Question.{Question}
use Rattle.code_questions.specs.declared.question.Way.{Way}
use Rattle.code_questions.specs.declared.question.Way.TheVariants as way
use Rattle.code_questions.specs.declared.question.Whose.TheVariants as whose
use Rattle.code_questions.specs.Questions.{in_head, in_body, in_method, is_method_found, is_doit_found, is_found}
use Rattle.code_questions.proofs.Witnesses.{same-truth, passing, passes-any}
use Rattle.conditions.specs.Reflection.{reflective_names, is_text_found, is_one_found}

-- a fact of an item at a place
at-place : {X : Type 0} (P : X → Type 0) (xs : List X) (j : ℕ) (x : X) → AllByRecursion P xs → slice_get xs j ≡ Some x → P x
at-place P [] j x all e = absurd (cc)
at-place P (y ∷ ys) zero x all e = let same : y ≡ x = cc in subst P same all.0
at-place P (y ∷ ys) (suc j) x all e = at-place P ys j x all.1 e

-- a fact of an item
of-item : {X : Type 0} (P : X → Type 0) (xs : List X) (x : X) → All P xs → Contains xs x → P x
of-item P xs x all c = subst P c.2 (all c.0 x c.1)

-- where one test implies another
any-implied : {X : Type 0} (p q : X → Bool) → ((x : X) → p x ≡ true → q x ≡ true) → (xs : List X) → list_any p xs ≡ true → list_any q xs ≡ true
any-implied p q h xs e = let w = passing p xs e in passes-any q xs w.0 w.1 w.2 (h w.1 w.3)

-- equal texts
same-text : (t u : List ℕ) → text_eq t u ≡ true → t ≡ u
same-text t u e = (slice_eq-Decides Decides-eqb t u (text_eq t u) refl).0 e

-- the number of a text is one of a name with that text
number-text : (names : List (List ℕ)) (t : List ℕ) (n : ℕ) → number_in names t ≡ Some n → text_eq t (name_at names n) ≡ true
number-text names t n e = let at = position-Some (text_eq t) names n [] e in ap (text_eq t) (unwrap_or-slice_get names n []) ∙ at.1

module _ (p : ℕ → Bool) where
  -- a selector that is sent and passes
  message-sent : (n : ℕ) → p n ≡ true → (ms : MessagesOf ℕ) → has_message nat_eq n ms ≡ true → has_message_that p ms ≡ true
  message-sent n h no_messages e = absurd (true≢false (sym e))
  message-sent n h (more_messages s args ms) e = by (or_cases (nat_eq n s) (has_message nat_eq n ms) e) (message-sent n h ms)
    where
      by : (nat_eq n s ≡ true) ⊎ (has_message nat_eq n ms ≡ true) → (has_message nat_eq n ms ≡ true → has_message_that p ms ≡ true) → (p s || has_message_that p ms) ≡ true
      by (inl f) rest = or_left (p s) (has_message_that p ms) (ap p (sym (eqb-equal n s f)) ∙ h)
      by (inr f) rest = or_right (p s) (has_message_that p ms) (rest f)

  sent : (n : ℕ) → p n ≡ true → (t : TreeOf ℕ) → is_sender nat_eq n t ≡ true → sends_one_that p t ≡ true
  sent n h (var m) e = absurd (true≢false (sym e))
  sent n h (literal l) e = absurd (true≢false (sym e))
  sent n h (send r s args) e = ap p (sym (eqb-equal n s e)) ∙ h
  sent n h (cascade r ms) e = message-sent n h ms e
  sent n h (assign m t) e = absurd (true≢false (sym e))
  sent n h (block ps ts ss c) e = absurd (true≢false (sym e))
  sent n h (brace ts) e = absurd (true≢false (sym e))
  sent n h (return t) e = absurd (true≢false (sym e))

  -- where one is sent that passes, it is the number of a selector
  message-one : (ms : MessagesOf ℕ) → has_message_that p ms ≡ true → (n : ℕ) × (has_message nat_eq n ms ≡ true) × (p n ≡ true)
  message-one no_messages e = absurd (true≢false (sym e))
  message-one (more_messages s args ms) e = by (or_cases (p s) (has_message_that p ms) e) (message-one ms)
    where
      by : (p s ≡ true) ⊎ (has_message_that p ms ≡ true) → (has_message_that p ms ≡ true → (n : ℕ) × (has_message nat_eq n ms ≡ true) × (p n ≡ true))
          → (n : ℕ) × ((nat_eq n s || has_message nat_eq n ms) ≡ true) × (p n ≡ true)
      by (inl h) rest = (s, or_left (nat_eq s s) (has_message nat_eq s ms) (eqb-refl s), h)
      by (inr h) rest = let r = rest h in (r.0, or_right (nat_eq r.0 s) (has_message nat_eq r.0 ms) r.1, r.2)

  sent-one : (t : TreeOf ℕ) → sends_one_that p t ≡ true → (n : ℕ) × (is_sender nat_eq n t ≡ true) × (p n ≡ true)
  sent-one (var m) e = absurd (true≢false (sym e))
  sent-one (literal l) e = absurd (true≢false (sym e))
  sent-one (send r s args) e = (s, eqb-refl s, e)
  sent-one (cascade r ms) e = message-one ms e
  sent-one (assign m t) e = absurd (true≢false (sym e))
  sent-one (block ps ts ss c) e = absurd (true≢false (sym e))
  sent-one (brace ts) e = absurd (true≢false (sym e))
  sent-one (return t) e = absurd (true≢false (sym e))

  -- a name that is read or assigned and passes
  used : (n : ℕ) → p n ≡ true → (t : TreeOf ℕ) → option_map_or (nat_eq n) (name_used t) false ≡ true → option_map_or p (name_used t) false ≡ true
  used n h t = by (name_used t)
    where
      by : (o : Option ℕ) → option_map_or (nat_eq n) o false ≡ true → option_map_or p o false ≡ true
      by None e = absurd (true≢false (sym e))
      by (Some m) e = ap p (sym (eqb-equal n m e)) ∙ h

  used-one : (t : TreeOf ℕ) → option_map_or p (name_used t) false ≡ true → (n : ℕ) × (name_used t ≡ Some n) × (p n ≡ true)
  used-one t = by (name_used t) refl
    where
      by : (o : Option ℕ) → name_used t ≡ o → option_map_or p o false ≡ true → (n : ℕ) × (name_used t ≡ Some n) × (p n ≡ true)
      by None q e = absurd (true≢false (sym e))
      by (Some m) q e = (m, q, e)

-- a selector is reflective where its text is one of these
reflective-text : (u t : List ℕ) (j : ℕ) → slice_get reflective_selectors j ≡ Some t → text_eq t u ≡ true → is_reflective_selector u ≡ true
unfolding is_reflective_selector
reflective-text u t j at e = passes-any (text_eq u) reflective_selectors j t at (ap (text_eq u) (same-text t u e) ∙ text_eq-refl u)

text-reflective : (u : List ℕ) → is_reflective_selector u ≡ true → (j : ℕ) × (t : List ℕ) × (slice_get reflective_selectors j ≡ Some t) × (text_eq t u ≡ true)
unfolding is_reflective_selector
text-reflective u e = let w = passing (text_eq u) reflective_selectors e in (w.0, w.1, w.2, ap (text_eq w.1) (same-text u w.1 w.3) ∙ text_eq-refl w.1)

module _ (s : Slots) (orderly : IsOrderly s) where
  abbrev i : ImageOf ℕ
  i = number_image s

  abbrev v : CommandWordsOf ℕ
  v = number_command_words s.names

  -- the text of the selector for messages that are not understood
  abbrev not_understood : List ℕ
  not_understood = codes "doesNotUnderstand:"

  -- whether code of the user is reflective, as the model asks and as the program does
  abbrev is_reflecting : Bool
  is_reflecting = list_any (method_reflects v) i.methods || list_any (λ (d : DoItOf ℕ). reflects v d.body) i.doits

  abbrev is_told : Bool
  is_told = is_text_found s way.Selector not_understood || (is_one_found s way.Sent reflective_selectors || is_one_found s way.Used reflective_names)

  abbrev question : Way → ℕ → Question
  question how n = record { whose = whose.Users; what = how; name = n }

  -- the number of a text of a known name
  text-number : (t : List ℕ) (n : ℕ) → n < length s.names → text_eq t (name_at s.names n) ≡ true → number_in s.names t ≡ Some n
  text-number t n h e = by (number_in s.names t) refl
    where
      by : (o : Option ℕ) → number_in s.names t ≡ o → o ≡ Some n
      by None q = absurd (true≢false (sym e ∙ without_number s.names t n h q))
      by (Some m) q = ap Some (eqb-equal m n (sym (with_number s.names t n h orderly.names_distinct m q) ∙ e))

  -- what is found of a text with a number
  text-found : (how : Way) (t : List ℕ) (n : ℕ) → number_in s.names t ≡ Some n → is_found i (question how n) ≡ true → is_text_found s how t ≡ true
  unfolding is_text_found
  text-found how t n e h = ap (λ (o : Option ℕ). option_map_or (λ (m : ℕ). is_found i (question how m)) o false) e ∙ h

  found-text : (how : Way) (t : List ℕ) → is_text_found s how t ≡ true → (n : ℕ) × (number_in s.names t ≡ Some n) × (is_found i (question how n) ≡ true)
  unfolding is_text_found
  found-text how t = by (number_in s.names t) refl
    where
      by : (o : Option ℕ) → number_in s.names t ≡ o → option_map_or (λ (m : ℕ). is_found i (question how m)) o false ≡ true → (n : ℕ) × (number_in s.names t ≡ Some n) × (is_found i (question how n) ≡ true)
      by None q e = absurd (true≢false (sym e))
      by (Some n) q e = (n, q, e)

  -- where what is found is reflective, code of the user is
  found-reflects : (how : Way) (n : ℕ) → ((m : MethodOf ℕ) → in_head how n m ≡ true → v.is_not_understood m.selector ≡ true)
      → ((b : SequenceOf ℕ) → in_body how n b ≡ true → reflects v b ≡ true) → is_found i (question how n) ≡ true → is_reflecting ≡ true
  found-reflects how n head body e = by (or_cases (list_any (is_method_found i (question how n)) i.methods) (list_any (is_doit_found (question how n)) i.doits) e)
    where
      method : (m : EntryOf ℕ) → is_method_found i (question how n) m ≡ true → method_reflects v m ≡ true
      method m h = let parts = and_parts (not m.kernel) (in_method how n m.tree) h in
          and_from (not m.kernel) (v.is_not_understood m.tree.selector || reflects v m.tree.body) parts.0 (either (or_cases (in_head how n m.tree) (in_body how n m.tree.body) parts.1))
        where
          either : (in_head how n m.tree ≡ true) ⊎ (in_body how n m.tree.body ≡ true) → (v.is_not_understood m.tree.selector || reflects v m.tree.body) ≡ true
          either (inl f) = or_left (v.is_not_understood m.tree.selector) (reflects v m.tree.body) (head m.tree f)
          either (inr f) = or_right (v.is_not_understood m.tree.selector) (reflects v m.tree.body) (body m.tree.body f)

      by : (list_any (is_method_found i (question how n)) i.methods ≡ true) ⊎ (list_any (is_doit_found (question how n)) i.doits ≡ true) → is_reflecting ≡ true
      by (inl h) = or_left (list_any (method_reflects v) i.methods) (list_any (λ (d : DoItOf ℕ). reflects v d.body) i.doits) (any-implied (is_method_found i (question how n)) (method_reflects v) method i.methods h)
      by (inr h) = or_right (list_any (method_reflects v) i.methods) (list_any (λ (d : DoItOf ℕ). reflects v d.body) i.doits) (any-implied (is_doit_found (question how n)) (λ (d : DoItOf ℕ). reflects v d.body) (λ d f. body d.body f) i.doits h)

  -- the three ways
  selector-back : is_text_found s way.Selector not_understood ≡ true → is_reflecting ≡ true
  selector-back e =
      let f = found-text way.Selector not_understood e in
      found-reflects way.Selector f.0 (λ m h. ap v.is_not_understood (sym (eqb-equal f.0 m.selector h)) ∙ number-text s.names not_understood f.0 f.1)
      (λ b h. let w = passing (λ (p : Placed ℕ). false) (nodes b) h in absurd (true≢false (sym w.3))) f.2

  sent-back : is_one_found s way.Sent reflective_selectors ≡ true → is_reflecting ≡ true
  sent-back e =
      let w = passing (is_text_found s way.Sent) reflective_selectors e in
      let f = found-text way.Sent w.1 w.3 in
      let is = reflective-text (name_at s.names f.0) w.1 w.0 w.2 (number-text s.names w.1 f.0 f.1) in
      found-reflects way.Sent f.0 (λ m h. absurd (true≢false (sym h)))
      (λ b h.
      any-implied (λ (p : Placed ℕ). is_sender nat_eq f.0 p.1) (λ (p : Placed ℕ). is_reflective v p.1)
      (λ p g. or_left (sends_one_that v.is_reflective_selector p.1) (option_map_or v.is_reflective_name (name_used p.1) false) (sent v.is_reflective_selector f.0 is p.1 g)) (nodes b) h) f.2

  used-back : is_one_found s way.Used reflective_names ≡ true → is_reflecting ≡ true
  used-back e =
      let w = passing (is_text_found s way.Used) reflective_names e in
      let f = found-text way.Used w.1 w.3 in
      let is = named w.0 w.1 (name_at s.names f.0) w.2 (number-text s.names w.1 f.0 f.1) in
      found-reflects way.Used f.0 (λ m h. absurd (true≢false (sym h)))
      (λ b h.
      any-implied (λ (p : Placed ℕ). option_map_or (nat_eq f.0) (name_used p.1) false) (λ (p : Placed ℕ). is_reflective v p.1)
      (λ p g. or_right (sends_one_that v.is_reflective_selector p.1) (option_map_or v.is_reflective_name (name_used p.1) false) (used v.is_reflective_name f.0 is p.1 g)) (nodes b) h) f.2
    where
      named : (j : ℕ) (t u : List ℕ) → slice_get reflective_names j ≡ Some t → text_eq t u ≡ true → (text_eq (codes "thisContext") u || text_eq (codes "Smalltalk") u) ≡ true
      named zero t u at h = let same : t ≡ codes "thisContext" = cc in or_left (text_eq (codes "thisContext") u) (text_eq (codes "Smalltalk") u) (ap (λ (x : List ℕ). text_eq x u) (sym same) ∙ h)
      named (suc zero) t u at h = let same : t ≡ codes "Smalltalk" = cc in or_right (text_eq (codes "thisContext") u) (text_eq (codes "Smalltalk") u) (ap (λ (x : List ℕ). text_eq x u) (sym same) ∙ h)
      named (suc (suc j)) t u at h = absurd (cc)

  -- a name by which code is reflective
  record Clue (b : SequenceOf ℕ) : Type 0 where
    how : Way
    number : ℕ
    text : List ℕ
    is : number_in s.names text ≡ Some number
    answers : in_body how number b ≡ true
    tells : is_text_found s how text ≡ true → is_told ≡ true

  -- the text of a reflective name
  name-text : (n : ℕ) → v.is_reflective_name n ≡ true → (t : List ℕ) × (text_eq t (name_at s.names n) ≡ true) × (is_text_found s way.Used t ≡ true → is_one_found s way.Used reflective_names ≡ true)
  name-text n h = either (or_cases (text_eq (codes "thisContext") (name_at s.names n)) (text_eq (codes "Smalltalk") (name_at s.names n)) h)
    where
      either : (text_eq (codes "thisContext") (name_at s.names n) ≡ true) ⊎ (text_eq (codes "Smalltalk") (name_at s.names n) ≡ true)
          → (t : List ℕ) × (text_eq t (name_at s.names n) ≡ true) × (is_text_found s way.Used t ≡ true → is_one_found s way.Used reflective_names ≡ true)
      either (inl f) = (codes "thisContext", f, λ g. passes-any (is_text_found s way.Used) reflective_names 0 (codes "thisContext") refl g)
      either (inr f) = (codes "Smalltalk", f, λ g. passes-any (is_text_found s way.Used) reflective_names 1 (codes "Smalltalk") refl g)

  -- a reflective node has such a name
  node-clue : (b : SequenceOf ℕ) → SequenceNames (λ n. n < length s.names) b → (j : ℕ) (p : Placed ℕ) → slice_get (nodes b) j ≡ Some p → is_reflective v p.1 ≡ true → Clue b
  node-clue b known j p at e = by (or_cases (sends_one_that v.is_reflective_selector p.1) (option_map_or v.is_reflective_name (name_used p.1) false) e)
    where
      known-own : (n : ℕ) → Contains (own_names p.1) n → n < length s.names
      known-own n own = of-item (λ m. m < length s.names) (code_names b) n (All-SequenceNames (λ m. m < length s.names) b known) (listed-own b p.0 p.1 n (place-contains (nodes b) j p at) own)

      by : (sends_one_that v.is_reflective_selector p.1 ≡ true) ⊎ (option_map_or v.is_reflective_name (name_used p.1) false ≡ true) → Clue b
      by (inl h) =
          let one = sent-one v.is_reflective_selector p.1 h in
          let t = text-reflective (name_at s.names one.0) one.2 in
          record {
            how = way.Sent;
            number = one.0;
            text = t.1;
            is = text-number t.1 one.0 (known-own one.0 (own-sent nat_eq eqb-equal p.1 one.0 one.1)) t.3;
            answers = passes-any (λ (q : Placed ℕ). is_sender nat_eq one.0 q.1) (nodes b) j p at one.1;
            tells =
                λ g. or_right (is_text_found s way.Selector not_understood) (is_one_found s way.Sent reflective_selectors || is_one_found s way.Used reflective_names)
                (or_left (is_one_found s way.Sent reflective_selectors) (is_one_found s way.Used reflective_names) (passes-any (is_text_found s way.Sent) reflective_selectors t.0 t.1 t.2 g));
          }
      by (inr h) =
          let one = used-one v.is_reflective_name p.1 h in
          let t = name-text one.0 one.2 in
          record {
            how = way.Used;
            number = one.0;
            text = t.0;
            is = text-number t.0 one.0 (known-own one.0 (own-used p.1 one.0 one.1)) t.1;
            answers =
                passes-any (λ (q : Placed ℕ). option_map_or (nat_eq one.0) (name_used q.1) false) (nodes b) j p at
                (ap (λ (o : Option ℕ). option_map_or (nat_eq one.0) o false) one.1 ∙ eqb-refl one.0);
            tells =
                λ g. or_right (is_text_found s way.Selector not_understood) (is_one_found s way.Sent reflective_selectors || is_one_found s way.Used reflective_names)
                (or_right (is_one_found s way.Sent reflective_selectors) (is_one_found s way.Used reflective_names) (t.2 g));
          }

  clue : (b : SequenceOf ℕ) → SequenceNames (λ n. n < length s.names) b → reflects v b ≡ true → Clue b
  clue b known e = let w = passing (λ (p : Placed ℕ). is_reflective v p.1) (nodes b) e in node-clue b known w.0 w.1 w.2 w.3

  -- a method of a user and a do-it that answer are found
  method-found : (how : Way) (n j : ℕ) (m : EntryOf ℕ) → slice_get i.methods j ≡ Some m → not m.kernel ≡ true → in_method how n m.tree ≡ true → is_found i (question how n) ≡ true
  method-found how n j m at user h =
      or_left (list_any (is_method_found i (question how n)) i.methods) (list_any (is_doit_found (question how n)) i.doits)
      (passes-any (is_method_found i (question how n)) i.methods j m at (and_from (not m.kernel) (in_method how n m.tree) user h))

  doit-found : (how : Way) (n j : ℕ) (d : DoItOf ℕ) → slice_get i.doits j ≡ Some d → in_body how n d.body ≡ true → is_found i (question how n) ≡ true
  doit-found how n j d at h =
      or_right (list_any (is_method_found i (question how n)) i.methods) (list_any (is_doit_found (question how n)) i.doits)
      (passes-any (is_doit_found (question how n)) i.doits j d at h)

  method-told : (j : ℕ) (m : EntryOf ℕ) → slice_get i.methods j ≡ Some m → method_reflects v m ≡ true → is_told ≡ true
  method-told j m at e =
      let parts = and_parts (not m.kernel) (v.is_not_understood m.tree.selector || reflects v m.tree.body) e in
      by parts.0 ((at-place (EntryNames (λ n. n < length s.names)) i.methods j m orderly.names_known.methods at).tree) (or_cases (v.is_not_understood m.tree.selector) (reflects v m.tree.body) parts.1)
    where
      by : not m.kernel ≡ true → MethodNames (λ n. n < length s.names) m.tree → (v.is_not_understood m.tree.selector ≡ true) ⊎ (reflects v m.tree.body ≡ true) → is_told ≡ true
      by user known (inl h) =
          let n = m.tree.selector in
          or_left (is_text_found s way.Selector not_understood) (is_one_found s way.Sent reflective_selectors || is_one_found s way.Used reflective_names)
          (text-found way.Selector not_understood n (text-number not_understood n known.selector h)
          (method-found way.Selector n j m at user (or_left (nat_eq n n) (in_body way.Selector n m.tree.body) (eqb-refl n))))
      by user known (inr h) =
          let c = clue m.tree.body known.body h in
          c.tells (text-found c.how c.text c.number c.is (method-found c.how c.number j m at user (or_right (in_head c.how c.number m.tree) (in_body c.how c.number m.tree.body) c.answers)))

  doit-told : (j : ℕ) (d : DoItOf ℕ) → slice_get i.doits j ≡ Some d → reflects v d.body ≡ true → is_told ≡ true
  doit-told j d at e =
      let c = clue d.body (at-place (DoItNames (λ n. n < length s.names)) i.doits j d orderly.names_known.doits at) e in
      c.tells (text-found c.how c.text c.number c.is (doit-found c.how c.number j d at c.answers))

  -- so it is enough to look for these texts
  pub reflection-told : not is_told ≡ has_no_reflection v i
  reflection-told = ap not (same-truth is_told is_reflecting back forth)
    where
      back : is_told ≡ true → is_reflecting ≡ true
      back e = by (or_cases (is_text_found s way.Selector not_understood) (is_one_found s way.Sent reflective_selectors || is_one_found s way.Used reflective_names) e)
        where
          rest : (is_one_found s way.Sent reflective_selectors ≡ true) ⊎ (is_one_found s way.Used reflective_names ≡ true) → is_reflecting ≡ true
          rest (inl h) = sent-back h
          rest (inr h) = used-back h

          by : (is_text_found s way.Selector not_understood ≡ true) ⊎ ((is_one_found s way.Sent reflective_selectors || is_one_found s way.Used reflective_names) ≡ true) → is_reflecting ≡ true
          by (inl h) = selector-back h
          by (inr h) = rest (or_cases (is_one_found s way.Sent reflective_selectors) (is_one_found s way.Used reflective_names) h)

      forth : is_reflecting ≡ true → is_told ≡ true
      forth e = by (or_cases (list_any (method_reflects v) i.methods) (list_any (λ (d : DoItOf ℕ). reflects v d.body) i.doits) e)
        where
          by : (list_any (method_reflects v) i.methods ≡ true) ⊎ (list_any (λ (d : DoItOf ℕ). reflects v d.body) i.doits ≡ true) → is_told ≡ true
          by (inl h) = let w = passing (method_reflects v) i.methods h in method-told w.0 w.1 w.2 w.3
          by (inr h) = let w = passing (λ (d : DoItOf ℕ). reflects v d.body) i.doits h in doit-told w.0 w.1 w.2 w.3

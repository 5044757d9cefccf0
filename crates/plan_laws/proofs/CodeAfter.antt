-- Methods and do-its after a renaming, where it changes their code and where it does not.
use Rattle.std.proofs.Common.{◌≡◌, ℕ, Bool, true, false, List, Option, None, Some, option_map, slice_get, refl, sym, ap, ◌∙◌}
use Rattle.std.specs.Prelude.{if◌then◌else◌, nat_eq}
use Rattle.std.specs.List.{list_any}
use Rattle.std.specs.Option.{option_and_then}
use Rattle.std.proofs.lemmas.Bool.{or_parts}
use Rattle.tree_model.specs.Tree.{SequenceOf}
use Rattle.tree_model.specs.Nodes.{nodes}
use Rattle.st_tree.proofs.Back.{sequence_of-sequence_from, method_of-method_from}
use Rattle.image_model.specs.Image.{EntryOf, DoItOf, ImageOf}
use Rattle.image_model.specs.Words.{WordsOf, number_words}
use Rattle.image_model.specs.Means.{MeaningOf, VariableKind, means, means_in_doit}
use Rattle.image_model.specs.Uses.{is_that_class, is_sender}
use Rattle.class_table.specs.declared.record.ClassRec.{ClassRec}
use Rattle.class_table.specs.declared.record.MethodRec.{MethodRec}
use Rattle.class_table.specs.declared.record.DoIt.{DoIt}
use Rattle.class_table.specs.declared.record.Place.TheVariants as place
use Rattle.class_table.specs.Slots.{Slots}
use Rattle.class_table.specs.Valid.{IsLive}
use Rattle.class_table.specs.View.{class_name, entry_of, doit_of, number_image}
use Rattle.change_set.specs.declared.change.Change.{Change}
use Rattle.change_set.specs.declared.change.Change.TheVariants as change
use Rattle.command_model.specs.Numbers.{number_writing}
use Rattle.rename_model.specs.ClassRenamed.{WritingOf, means_the_class, named_anew}
use Rattle.rename_model.specs.VariableRenamed.{is_it, variable_anew, means_the_variable}
use Rattle.rename_model.specs.Renamed.{renamed_sequence}
use Rattle.rename_model.specs.SelectorRenamed as selector
use Rattle.renamed_code.specs.Anew.{RenamedOf, of_a_class, of_a_variable, of_a_selector, entry_after, is_entry_changed, doit_after, is_doit_changed}
use Rattle.renamed_code.specs.ChangedCode.{method_rec_after, doit_rec_after, change_at}
use Rattle.plan_laws.specs.Planned.{in_place}
use Rattle.plan_laws.proofs.Stays.{sequence_stays, statements_sent_same}
use Rattle.plan_laws.proofs.Classes.{moved}

module _ (s : Slots) (to : ℕ) where
  abbrev pub w : WordsOf ℕ
  w = number_words s.names

  abbrev pub writing : WritingOf ℕ
  writing = number_writing s.names

  abbrev i : ImageOf ℕ
  i = number_image s

  -- where no node means the class the sequence stays
  class-stays : (c : ℕ) (at : List ℕ → ℕ → MeaningOf ℕ) (b : SequenceOf ℕ) → means_the_class w writing i c to at b ≡ false
      → renamed_sequence (λ path n. named_anew w writing i c to (at path n) n) b ≡ b
  class-stays c at b q =
      sequence_stays b (λ path n. is_that_class nat_eq c (at path n)) (λ path n. named_anew w writing i c to (at path n) n) (λ path n h. ap (λ (t : Bool). if t then to else n) h) q

  -- where none means the variable
  variable-stays : (kind : VariableKind) (c x : ℕ) (at : List ℕ → ℕ → MeaningOf ℕ) (b : SequenceOf ℕ) → means_the_variable w writing i kind c x to at b ≡ false
      → renamed_sequence (λ path n. variable_anew w writing i kind c x to (at path n) n) b ≡ b
  variable-stays kind c x at b q =
      sequence_stays b (λ path n. is_it w writing i kind c x to (at path n) n) (λ path n. variable_anew w writing i kind c x to (at path n) n) (λ path n h. ap (λ (t : Bool). if t then to else n) h) q

  -- where none sends the selector
  selector-stays : (t : ℕ) (b : SequenceOf ℕ) → list_any (λ x. is_sender nat_eq t x.1) (nodes b) ≡ false → selector.sequence_after nat_eq writing i t to b ≡ b
  selector-stays t b q = λ j. record b { statements = statements_sent_same t to b.statements 0 q j }

  -- a method whose code stays is another only by the name of its class
  pub entry-same : (what : RenamedOf ℕ) (m : EntryOf ℕ) → is_entry_changed w writing i to what m ≡ false → entry_after w writing i to what m ≡ record m { class = moved what to m.class }
  entry-same (of_a_class c) m q = λ j. record m {
    class = option_map (in_place c to) m.class;
    source = ap (λ (b : Bool). if b then writing.method_text (entry_after w writing i to (of_a_class c) m).tree else m.source) q j;
    tree = record m.tree { body = class-stays c (means w i m) m.tree.body q j };
  }
  entry-same (of_a_variable kind c x) m q = λ j. record m {
    source = ap (λ (b : Bool). if b then writing.method_text (entry_after w writing i to (of_a_variable kind c x) m).tree else m.source) q j;
    tree = record m.tree { body = variable-stays kind c x (means w i m) m.tree.body q j };
  }
  entry-same (of_a_selector t) m q =
      let both = or_parts (nat_eq t m.tree.selector) (list_any (λ e. is_sender nat_eq t e.1) (nodes m.tree.body)) q in
      λ j. record m {
        source = ap (λ (b : Bool). if b then writing.method_text (entry_after w writing i to (of_a_selector t) m).tree else m.source) q j;
        tree = record m.tree { selector = ap (λ (b : Bool). if b then to else m.tree.selector) both.0 j; body = selector-stays t m.tree.body both.1 j };
      }

  -- a do-it whose code stays
  pub doit-same : (what : RenamedOf ℕ) (d : DoItOf ℕ) → is_doit_changed w writing i to what d ≡ false → doit_after w writing i to what d ≡ d
  doit-same (of_a_class c) d q = λ j. record {
    body = class-stays c (means_in_doit w i d) d.body q j;
    source = ap (λ (b : Bool). if b then writing.doit_text (doit_after w writing i to (of_a_class c) d).body else d.source) q j;
  }
  doit-same (of_a_variable kind c x) d q = λ j. record {
    body = variable-stays kind c x (means_in_doit w i d) d.body q j;
    source = ap (λ (b : Bool). if b then writing.doit_text (doit_after w writing i to (of_a_variable kind c x) d).body else d.source) q j;
  }
  doit-same (of_a_selector t) d q = λ j. record {
    body = selector-stays t d.body q j;
    source = ap (λ (b : Bool). if b then writing.doit_text (doit_after w writing i to (of_a_selector t) d).body else d.source) q j;
  }

  -- the record of a method after stands for the method after
  pub entry-changed : (what : RenamedOf ℕ) (cs : List ClassRec) (r : MethodRec) → class_name cs r.class ≡ moved what to (class_name s.classes r.class)
      → entry_of cs (method_rec_after s what to r) ≡ entry_after w writing i to what (entry_of s.classes r)
  entry-changed (of_a_class c) cs r e =
      λ j. record (entry_after w writing i to (of_a_class c) (entry_of s.classes r)) { class = e j; tree = method_of-method_from (entry_after w writing i to (of_a_class c) (entry_of s.classes r)).tree j }
  entry-changed (of_a_variable kind c x) cs r e =
      λ j. record (entry_after w writing i to (of_a_variable kind c x) (entry_of s.classes r)) { class = e j; tree = method_of-method_from (entry_after w writing i to (of_a_variable kind c x) (entry_of s.classes r)).tree j }
  entry-changed (of_a_selector t) cs r e =
      λ j. record (entry_after w writing i to (of_a_selector t) (entry_of s.classes r)) { class = e j; tree = method_of-method_from (entry_after w writing i to (of_a_selector t) (entry_of s.classes r)).tree j }

  pub doit-changed : (what : RenamedOf ℕ) (d : DoIt) → doit_of (doit_rec_after s what to d) ≡ doit_after w writing i to what (doit_of d)
  doit-changed what d = λ j. record (doit_after w writing i to what (doit_of d)) { body = sequence_of-sequence_from (doit_after w writing i to what (doit_of d)).body j }

  -- what stands where a change is given, and which
  module _ (what : RenamedOf ℕ) where
    abbrev pub entry_changes : MethodRec → Bool
    entry_changes r = is_entry_changed w writing i to what (entry_of s.classes r)

    abbrev pub doit_changes : DoIt → Bool
    doit_changes d = is_doit_changed w writing i to what (doit_of d)

    pub record GivenMethod (k : ℕ) (c : Change) : Type 0 where
      pub rec : MethodRec
      pub live : IsLive s.method_order k
      pub there : slice_get s.methods k ≡ Some rec
      pub changes : entry_changes rec ≡ true
      pub is : c ≡ change.Method k (method_rec_after s what to rec)

    pub record GivenDoIt (n : ℕ) (c : Change) : Type 0 where
      pub rec : DoIt
      pub there : slice_get s.doits n ≡ Some rec
      pub changes : doit_changes rec ≡ true
      pub is : c ≡ change.DoIt n (doit_rec_after s what to rec)

    some-same : {X : Type 0} {x y : X} → Some x ≡ Some y → x ≡ y
    some-same h = cc

    none-some : {X : Type 0} {x : X} → None ≡ Some x → ⊥
    none-some h = cc

    abbrev method_given : ℕ → Option MethodRec → Option Change
    method_given k o = option_and_then (λ (m : MethodRec). if entry_changes m then Some (change.Method k (method_rec_after s what to m)) else None) o

    pub given-method : (k : ℕ) (c : Change) → change_at s what to (place.Method k) ≡ Some c → GivenMethod k c
    given-method k c h = first (list_any (nat_eq k) s.method_order) refl (slice_get s.methods k) refl h
      where
        first : (b : Bool) → list_any (nat_eq k) s.method_order ≡ b → (o : Option MethodRec) → slice_get s.methods k ≡ o → method_given k (if b then o else None) ≡ Some c → GivenMethod k c
        first false l o e g = absurd (none-some g)
        first true l None e g = absurd (none-some g)
        first true l (Some m) e g = second (entry_changes m) refl g
          where
            second : (t : Bool) → entry_changes m ≡ t → (if t then Some (change.Method k (method_rec_after s what to m)) else None) ≡ Some c → GivenMethod k c
            second false q f = absurd (none-some f)
            second true q f = record { rec = m; live = l; there = e; changes = q; is = sym (some-same f) }

    pub given-doit : (n : ℕ) (c : Change) → change_at s what to (place.DoIt n) ≡ Some c → GivenDoIt n c
    given-doit n c h = first (slice_get s.doits n) refl h
      where
        first : (o : Option DoIt) → slice_get s.doits n ≡ o → option_and_then (λ (d : DoIt). if doit_changes d then Some (change.DoIt n (doit_rec_after s what to d)) else None) o ≡ Some c → GivenDoIt n c
        first None e g = absurd (none-some g)
        first (Some d) e g = second (doit_changes d) refl g
          where
            second : (t : Bool) → doit_changes d ≡ t → (if t then Some (change.DoIt n (doit_rec_after s what to d)) else None) ≡ Some c → GivenDoIt n c
            second false q f = absurd (none-some f)
            second true q f = record { rec = d; there = e; changes = q; is = sym (some-same f) }

    -- what is given for a live method and for a do-it
    pub method-gives : (k : ℕ) (r : MethodRec) → IsLive s.method_order k → slice_get s.methods k ≡ Some r → change_at s what to (place.Method k) ≡ (if entry_changes r then Some (change.Method k (method_rec_after s what to r)) else None)
    method-gives k r l e = ap (λ (b : Bool). method_given k (if b then slice_get s.methods k else None)) l ∙ ap (method_given k) e

    pub doit-gives : (n : ℕ) (d : DoIt) → slice_get s.doits n ≡ Some d → change_at s what to (place.DoIt n) ≡ (if doit_changes d then Some (change.DoIt n (doit_rec_after s what to d)) else None)
    doit-gives n d e = ap (option_and_then (λ (x : DoIt). if doit_changes x then Some (change.DoIt n (doit_rec_after s what to x)) else None)) e

-- What a line says may stand where it stands.
use Rattle.std.proofs.Common.{◌≡◌, ℕ, Bool, true, false, cond, List, [], ◌∷◌, Option, Some, None, Result, Ok, Err, refl}
use Rattle.std.proofs.Common.{subst}
use Rattle.swim_text.specs.Words.{words_of}
use Rattle.swim_script.specs.declared.commands.LineFault.{LineFault}
use Rattle.swim_script.specs.declared.commands.Stage.{Stage}
use Rattle.swim_script.specs.declared.commands.Stage.TheVariants.{Blank, Header, Events}
use Rattle.swim_script.specs.declared.commands.Word.{Word}
use Rattle.swim_script.specs.declared.forms.Form.{Form}
use Rattle.swim_script.specs.declared.commands.Word.TheVariants as words
use Rattle.swim_script.specs.declared.commands.Command.{Command}
use Rattle.swim_script.specs.declared.commands.Command.TheVariants.{Open, Row as RowLine, Order, Place, Seed, Wire}
use Rattle.swim_script.specs.declared.commands.Command.TheVariants.{Tick, Hear, Join, Remove, Table, Gap}
use Rattle.swim_wire.specs.Arguments.{◌>>=◌}
use Rattle.swim_script.specs.Arguments.{take_version, take_id, take_number, take_peer, take_order, take_seed, take_life}
use Rattle.swim_script.specs.Arguments.{take_state, take_datagram, open_arguments}
use Rattle.swim_script.specs.Commands.{alone, command_after, word_of, fault_of_word, word_read, known_read, words_read}
use Rattle.swim_script.specs.Commands.{said_by, is_skipped, answer_in, answer_read, unskipped_read, line_read, word_for}
use Rattle.swim_script.specs.Commands.{LineStandsAt}

-- the value of a step that did not fail
bind_ok : {A B : Type 0} (r : Result A LineFault) (f : A → Result B LineFault) (y : B) → (r >>= f) ≡ Ok y →
    (x : A) × (r ≡ Ok x) × (f x ≡ Ok y)
bind_ok (Ok x) f y e = (x, refl, e)
bind_ok (Err fault) f y e = absurd cc

-- no words were left over
alone_ok : (command other : Command) (after : List (List ℕ)) → alone command after ≡ Ok other → command ≡ other
alone_ok command other [] e = cc
alone_ok command other (word ∷ after) e = absurd cc

-- so the first word is that of the command
word_alone : (command other : Command) (after : List (List ℕ)) → alone command after ≡ Ok other →
    word_for other ≡ word_for command
word_alone command other after e =
    subst (λ (c : Command). word_for c ≡ word_for command) (alone_ok command other after e) refl

-- the command that the words after a first word say begins with that word
word_after : (form : Form) (word : Word) (after : List (List ℕ)) (command : Command) →
    command_after form word after ≡ Ok command → word_for command ≡ word
unfolding command_after
word_after form words.Open after command e =
    let arguments = bind_ok (open_arguments after) (λ a. alone (Open a.0) a.1) command e in
    word_alone (Open arguments.0.0) command arguments.0.1 arguments.2
word_after form words.Row after command e =
    let id = bind_ok (take_id after)
    (λ i. take_peer i.1 >>= λ p. take_state form p.1 >>= λ s.
    alone (RowLine (record { id = i.0; peer = p.0; state = s.0 })) s.1) command e in
    let peer = bind_ok (take_peer id.0.1)
    (λ p. take_state form p.1 >>= λ s. alone (RowLine (record { id = id.0.0; peer = p.0; state = s.0 })) s.1)
    command id.2 in
    let state = bind_ok (take_state form peer.0.1)
    (λ s. alone (RowLine (record { id = id.0.0; peer = peer.0.0; state = s.0 })) s.1) command peer.2 in
    word_alone (RowLine (record { id = id.0.0; peer = peer.0.0; state = state.0.0 })) command state.0.1 state.2
word_after form words.Order after command e =
    let order = bind_ok (take_order after) (λ o. alone (Order o.0) o.1) command e in
    word_alone (Order order.0.0) command order.0.1 order.2
word_after form words.Place after command e =
    let place = bind_ok (take_number 4294967295 after) (λ p. alone (Place p.0) p.1) command e in
    word_alone (Place place.0.0) command place.0.1 place.2
word_after form words.Seed after command e =
    let seed = bind_ok (take_seed after) (λ s. take_life form s.1 >>= λ l. alone (Seed s.0 l.0) l.1) command e in
    let life = bind_ok (take_life form seed.0.1) (λ l. alone (Seed seed.0.0 l.0) l.1) command seed.2 in
    word_alone (Seed seed.0.0 life.0.0) command life.0.1 life.2
word_after form words.Tick after command e = word_alone Tick command after e
word_after form words.Hear after command e =
    let peer = bind_ok (take_peer after) (λ p. take_datagram p.1 >>= λ d. alone (Hear p.0 d.0) d.1) command e in
    let datagram = bind_ok (take_datagram peer.0.1) (λ d. alone (Hear peer.0.0 d.0) d.1) command peer.2 in
    word_alone (Hear peer.0.0 datagram.0.0) command datagram.0.1 datagram.2
word_after form words.Join after command e =
    let id = bind_ok (take_id after) (λ i. take_peer i.1 >>= λ p. alone (Join i.0 p.0) p.1) command e in
    let peer = bind_ok (take_peer id.0.1) (λ p. alone (Join id.0.0 p.0) p.1) command id.2 in
    word_alone (Join id.0.0 peer.0.0) command peer.0.1 peer.2
word_after form words.Remove after command e =
    let id = bind_ok (take_id after) (λ i. alone (Remove i.0) i.1) command e in
    word_alone (Remove id.0.0) command id.0.1 id.2
word_after form words.Wire after command e =
    let version = bind_ok (take_version after) (λ i. alone (Wire i.0) i.1) command e in
    word_alone (Wire version.0.0) command version.0.1 version.2
word_after form words.Table after command e = word_alone Table command after e
word_after form words.Gap after command e =
    let id = bind_ok (take_id after) (λ i. alone (Gap i.0) i.1) command e in
    word_alone (Gap id.0.0) command id.0.1 id.2
word_after form words.Answer after command e = absurd cc

word_stands : (form : Form) (stage : Stage) (word : Word) (after : List (List ℕ)) (fault : Option LineFault)
    (read : Result Command LineFault) → fault_of_word stage word ≡ fault → word_read form fault word after ≡ read →
    LineStandsAt stage (said_by read)
word_stands form stage word after fault (Err wrong) stands is = tt
word_stands form stage word after (Some fault) (Ok command) stands is = absurd cc
word_stands form stage word after None (Ok command) stands is = rw (word_after form word after command is) stands

words_stand : (form : Form) (stage : Stage) (given : List (List ℕ)) →
    LineStandsAt stage (said_by (words_read form stage given))
words_stand form stage [] = tt
words_stand form stage (word ∷ after) = by (word_of word)
  where
    by : (found : Option Word) → LineStandsAt stage (said_by (known_read form stage found after))
    by None = tt
    by (Some word) = word_stands form stage word after (fault_of_word stage word)
        (word_read form (fault_of_word stage word) word after) refl refl

answer_stands : (stage : Stage) (text : List ℕ) → LineStandsAt stage (answer_read stage text)
answer_stands Blank text = tt
answer_stands (Header draws wired) text = tt
answer_stands Events text = refl

unskipped_stands : (form : Form) (stage : Stage) (line : List ℕ) (answer : Option (List ℕ)) →
    LineStandsAt stage (unskipped_read form stage line answer)
unskipped_stands form stage line None = words_stand form stage (words_of line)
unskipped_stands form stage line (Some text) = answer_stands stage text

pub line_stands : (form : Form) (stage : Stage) (line : List ℕ) → LineStandsAt stage (line_read form stage line)
line_stands form stage line = by (is_skipped line)
  where
    by : (skipped : Bool) →
        LineStandsAt stage (cond skipped (Ok None) (unskipped_read form stage line (answer_in form line)))
    by true = tt
    by false = unskipped_stands form stage line (answer_in form line)

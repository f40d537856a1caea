-- Each message has an answer.
use Rattle.std.proofs.Common.{◌≡◌, ◌≢◌, ℕ, Bool, true, false, List, length}
use Rattle.std.proofs.Common.{Option, Some, None, refl, sym, ap, ◌∙◌, inl, inr}
use Rattle.std.proofs.lemmas.Option.{same_Some}
use Rattle.std.proofs.lemmas.Bool.{false≢true, cases_eq, cases_lt}
use Rattle.swim_wire.specs.Address.{Address}
use Rattle.swim_wire.specs.Probe.{key_of, ping_by, ack_by}
use Rattle.swim_wire.specs.Requests.{asker_for}
use Rattle.swim_wire.specs.declared.messages.Kind.{Kind}
use Rattle.swim_wire.specs.declared.messages.Kind.TheVariants.{Ping, PingReq, Ack}
use Rattle.swim_wire.specs.Messages.{Message}
use Rattle.swim_wire.specs.declared.messages.Version.{Version}
use Rattle.swim_history.specs.declared.replies.Reply.{Reply}
use Rattle.swim_history.specs.declared.replies.Reply.TheVariants.{Heard, Send, Dropped}
use Rattle.swim_history.specs.declared.replies.DropReason.TheVariants.{NotForMe, Borrowed, AboutMe, Unlisted, TableFull}
use Rattle.swim_history.specs.declared.replies.DropReason.TheVariants.{Stray, NoRequest}
use Rattle.swim_history.specs.declared.entries.Entry.{Entry}
use Rattle.swim_history.specs.Setting.{Setting}
use Rattle.swim_history.specs.Clock.{period_number}
use Rattle.swim_history.specs.Aim.{aim}
use Rattle.swim_history.specs.Waiting.{waiting}
use Rattle.swim_history.specs.Run.{IsRequest, is_waiting, target_at, Hears}
use Rattle.swim_wire.specs.Requests.{most_waiting}

-- an answer to a message
abbrev pub HasReply : Setting → List Entry → Message → Address → Kind → Type 0
HasReply o h m source kind = (reply : Reply) × Hears o h m source kind reply

relay_reply : (o : Setting) (h : List Entry) (m : Message) (source : Address) → IsRequest o.me m → m.target ≢ o.me →
    HasReply o h m source PingReq
relay_reply o h m source request away = by (target_at o h m) refl where
  found : (peer : Address) → target_at o h m ≡ Some peer → (waits : Bool) → is_waiting o h m ≡ waits →
      HasReply o h m source PingReq
  found peer is true waits =
      (Send peer (ping_by o.me m), (request, away, is, λ none. absurd (false≢true (sym none ∙ waits)), refl))
  found peer is false waits =
      elim (cases_lt (length (waiting o h)) most_waiting) [
        | inl room ↦ (Send peer (ping_by o.me m), (request, away, is, λ none. room, refl))
        | inr full ↦ (Dropped TableFull, (request, away, (λ none. absurd (cc (is, none))), waits, full))
      ]

  by : (peer : Option Address) → target_at o h m ≡ peer → HasReply o h m source PingReq
  by None is = (Dropped Unlisted, (request, away, is))
  by (Some peer) is = found peer is (is_waiting o h m) refl

ack_reply : (o : Setting) (h : List Entry) (m : Message) (source : Address) → m.initiator ≡ o.me →
    HasReply o h m source Ack
ack_reply o h m source mine = by (aim h) refl where
  by : (aimed : Option ℕ) → aim h ≡ aimed → HasReply o h m source Ack
  by None at = (Dropped Stray, (mine, λ is. absurd cc))
  by (Some id) at =
      elim (cases_eq id m.target) [
        | inl same ↦
            elim (cases_eq m.number (period_number o h)) [
              | inl now ↦ (Heard, (mine, at ∙ ap Some same, now))
              | inr other ↦ (Dropped Stray, (mine, λ is. other))
            ]
        | inr other ↦ (Dropped Stray, (mine, λ is. absurd (other (same_Some id m.target (sym at ∙ is)))))
      ]

forward_reply : (o : Setting) (h : List Entry) (m : Message) (source : Address) → m.initiator ≢ o.me →
    HasReply o h m source Ack
forward_reply o h m source other = by (asker_for (key_of m) (waiting o h)) refl where
  by : (asker : Option (Address × Version)) → asker_for (key_of m) (waiting o h) ≡ asker → HasReply o h m source Ack
  by None is = (Dropped NoRequest, (other, is))
  by (Some asker) is = (Send asker.0 (ack_by asker.1 o.me m), (other, asker.1, is, refl))

pub hear_reply : (o : Setting) (h : List Entry) (m : Message) (source : Address) (kind : Kind) →
    HasReply o h m source kind
hear_reply o h m source Ping =
    elim (cases_eq m.target o.me) [
      | inl mine ↦ (Send source (ack_by m.version o.me m), (mine, refl, refl))
      | inr other ↦ (Dropped NotForMe, other)
    ]
hear_reply o h m source PingReq =
    elim (cases_eq m.initiator m.sender) [
      | inl begun ↦
          elim (cases_eq m.initiator o.me) [
            | inl mine ↦ (Dropped Borrowed, inr mine)
            | inr other ↦
                elim (cases_eq m.target o.me) [
                  | inl about ↦ (Dropped AboutMe, ((begun, other), about))
                  | inr away ↦ relay_reply o h m source (begun, other) away
                ]
          ]
      | inr passed ↦ (Dropped Borrowed, inl passed)
    ]
hear_reply o h m source Ack =
    elim (cases_eq m.initiator o.me) [
      | inl mine ↦ ack_reply o h m source mine
      | inr other ↦ forward_reply o h m source other
    ]

-- The keys of a configuration, as one table.
use Rattle.std.specs.Prelude.{ℕ, Bool, true, false, List, [], ◌∷◌, Option, Some, None, codes}
use Rattle.swim_config.specs.declared.keys.ValueForm.{ValueForm}
use Rattle.swim_config.specs.declared.keys.ValueForm.TheVariants.{Number, Peer, Path, Mode, Seed, Keys, Members}
use Rattle.swim_config.specs.declared.keys.ConfigKey.{ConfigKey}
use Rattle.swim_config.specs.declared.keys.ConfigKey.TheVariants as keys

-- what the table says of a key: its name where it stands, what its value has to be, the number that it has where it is
-- left
-- out, what it is for, and whether its number begins a line of the summary
pub record KeyEntry : Type 0 where
  pub name : List ℕ
  pub form : ValueForm
  pub default : Option ℕ
  pub about : List ℕ
  pub begins_line : Bool

-- an entry without a default, whose number begins no line
abbrev pub required : List ℕ → ValueForm → List ℕ → KeyEntry
required name form about =
    record { name = name; form = form; default = None; about = about; begins_line = false }

-- the table
abbrev pub entry_of : ConfigKey → KeyEntry
entry_of keys.Id = required (codes "id") (Number 1 4294967295) (codes "this member")
entry_of keys.Listen = required (codes "listen") Peer (codes "where its datagrams come in")
entry_of keys.Control = required (codes "control") Path (codes "the path of the control socket")
entry_of keys.Events = required (codes "events") Path (codes "the path of the events' socket, not that of control")
entry_of keys.Metrics = required (codes "metrics") Path (codes "the path of the metrics' file, not that of a socket")
entry_of keys.ControlMode = required (codes "control_mode") Mode (codes "the mode of the control socket")
entry_of keys.EventsMode = required (codes "events_mode") Mode (codes "the mode of the events' socket")
entry_of keys.K =
    record {
      name = codes "k";
      form = Number 0 4294967295;
      default = None;
      about = codes "how many relays are asked, at most 8";
      begins_line = true;
    }
entry_of keys.Rtt =
    required (codes "rtt") (Number 0 4294967295) (codes "ticks for which a direct ack is waited for, at least 1")
entry_of keys.Period =
    required (codes "period") (Number 0 4294967295) (codes "ticks of a period, from three times rtt to 65535")
entry_of keys.TickMs = required (codes "tick_ms") (Number 1 60000) (codes "milliseconds of a tick")
entry_of keys.Seed = required (codes "seed") Seed (codes "what orders and places are drawn from")
entry_of keys.Journal = required (codes "journal") (Number 1 1000000) (codes "the most entries of the journal")
entry_of keys.Last =
    record {
      name = codes "last";
      form = Number 0 9223372036854775807;
      default = Some 0;
      about = codes "the last period number that was used before";
      begins_line = false;
    }
entry_of keys.Wire =
    record {
      name = codes "wire";
      form = Number 1 2;
      default = Some 1;
      about = codes "the version of its own pings and ping-reqs";
      begins_line = false;
    }
entry_of keys.Keys = required (codes "keys") Keys (codes "the keys of the group, of which the first signs")
entry_of keys.Fence =
    record {
      name = codes "fence";
      form = Number 0 4294967295;
      default = Some 1000;
      about = codes "datagrams a second of an address, 0 for all";
      begins_line = false;
    }
entry_of keys.Rejoin =
    record {
      name = codes "rejoin";
      form = Number 0 65535;
      default = Some 0;
      about = codes "periods between knocks at failed members, 0 for none";
      begins_line = false;
    }
entry_of keys.JournalDir =
    required (codes "journal_dir") Path (codes "the folder of the journal files, not the path of another key")
entry_of keys.JournalKeep =
    record {
      name = codes "journal_keep";
      form = Number 0 4294967295;
      default = Some 16;
      about = codes "how many journal files stay, 0 for all";
      begins_line = true;
    }
entry_of keys.JournalMs =
    record {
      name = codes "journal_ms";
      form = Number 0 1;
      default = Some 0;
      about = codes "times in journal files: 0 in seconds, 1 with milliseconds";
      begins_line = false;
    }
entry_of keys.Member = required (codes "member") Members (codes "the other members, at most 128")
entry_of keys.MemberId = required (codes "id") (Number 1 4294967295) (codes "another member")
entry_of keys.MemberAt = required (codes "at") Peer (codes "where another member listens")

-- the keys of a configuration, and those of a member, in the order in which their faults are told
abbrev pub top_keys : List ConfigKey
top_keys =
    keys.Id ∷ keys.Listen ∷ keys.Control ∷ keys.Events ∷ keys.Metrics ∷ keys.ControlMode ∷ keys.EventsMode ∷ keys.K ∷
    keys.Rtt ∷ keys.Period ∷ keys.TickMs ∷ keys.Seed ∷ keys.Journal ∷ keys.Last ∷ keys.Wire ∷ keys.Keys ∷ keys.Fence ∷
    keys.Rejoin ∷ keys.JournalDir ∷ keys.JournalKeep ∷ keys.JournalMs ∷ keys.Member ∷ []

abbrev pub member_keys : List ConfigKey
member_keys = keys.MemberId ∷ keys.MemberAt ∷ []

-- those whose numbers a summary tells behind its first three lines, in this order
abbrev pub number_keys : List ConfigKey
number_keys =
    keys.K ∷ keys.Rtt ∷ keys.Period ∷ keys.TickMs ∷ keys.Last ∷ keys.Journal ∷ keys.Wire ∷ keys.Keys ∷ keys.Fence ∷
    keys.Rejoin ∷ keys.JournalKeep ∷ keys.JournalMs ∷ []

-- ---- what follows of a key

abbrev pub name_of : ConfigKey → List ℕ
name_of key = (entry_of key).name

abbrev pub form_of : ConfigKey → ValueForm
form_of key = (entry_of key).form

abbrev pub default_of : ConfigKey → Option ℕ
default_of key = (entry_of key).default

abbrev pub about_of : ConfigKey → List ℕ
about_of key = (entry_of key).about

abbrev pub begins_line : ConfigKey → Bool
begins_line key = (entry_of key).begins_line

-- a key, as faults name it
abbrev pub key_text : ConfigKey → List ℕ
key_text keys.MemberId = codes "member.id"
key_text keys.MemberAt = codes "member.at"
key_text key = name_of key

-- What a guest may send, and how long that may take.
use Rattle.std.specs.Prelude.{ℕ, Bool, true, false}
use Rattle.http1.specs.declared.conn.Limits.{Limits}
use Rattle.http_server.specs.declared.state.Config.{Config}

-- a head of 8 KiB, no extensions of chunks, no trailers but the line that ends them, and no body; no request is read
-- before the answer to the one before is taken
abbrev pub guest_config : Config
guest_config = record {
  limits = record { max_head_len = 8192; max_extensions_len = 0; max_trailers_len = 2 };
  max_body_len = 0;
  max_pending = 0;
  read_size = 1024;
}

-- for how many nanoseconds it may take: 0.3 s if all places are taken, and else 10 s
abbrev pub most_nanos : Bool → ℕ
most_nanos true = 300_000_000
most_nanos false = 10_000_000_000

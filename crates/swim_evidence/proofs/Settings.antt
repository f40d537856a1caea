-- Openings that agree in all their parts.
use Rattle.std.proofs.Common.{◌≡◌, refl}
use Rattle.swim_history.specs.Setting.{Setting}

pub same_setting : (a b : Setting) → a.me ≡ b.me → a.k ≡ b.k → a.rtt ≡ b.rtt → a.period ≡ b.period → a.rows ≡ b.rows →
    a.last ≡ b.last → a.version ≡ b.version → a ≡ b
same_setting a b me k rtt period rows last version = rw (me, k, rtt, period, rows, last, version) refl

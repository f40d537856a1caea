-- The lines of samples, as they are written.
use Rattle.std.proofs.Common.{◌≡◌, ℕ, suc, ◌≤◌, List, [], ◌∷◌, ◌++◌, append_assoc, append-nil}
use Rattle.std.proofs.Common.{codes, decimal, get_or, length, map, refl, sym, ap, ◌∙◌, arith}
use Rattle.swim_text.specs.TwoPuts.{first_and_others, others_of}
use Rattle.swim_history.specs.Texts.{feed}
use Rattle.swim_metrics.specs.declared.heads.MetricKind.{MetricKind}
use Rattle.swim_metrics.specs.declared.wait_histograms.HistogramBucket.{HistogramBucket}
use Rattle.swim_metrics.specs.declared.wait_histograms.Waits.{Waits}
use Rattle.swim_metrics.specs.Families.{Family, Sample, bucket_sample, escaped, escaped_one, total_samples}
use Rattle.swim_metrics.specs.Families.{column_of, key_sample, key_samples, member_acks, member_sample}
use Rattle.swim_metrics.specs.Families.{member_samples}
use Rattle.swim_metrics.specs.Families.{version_sample, wait_samples}
use Rattle.swim_metrics.specs.declared.families.Column.{Column}
use Rattle.swim_metrics.specs.declared.member_figures.MemberFigures.{MemberFigures}
use Rattle.swim_metrics.specs.Texts.{family_lines, family_text, head_text, sample_text}
use Rattle.swim_metrics.specs.Texts.{samples_text}

-- the line of a bucket
bucket_line_of : (me : ℕ) (bytes name : List ℕ) (b : HistogramBucket) → bytes ≡ name →
    bytes ++ (codes "_bucket{member=\"" ++ (decimal me ++ (codes "\",le=\"" ++ (decimal b.bound ++ (codes "\"} " ++
    (decimal b.count ++ (codes "\n" ++ []))))))) ≡ sample_text me name (bucket_sample b)
bucket_line_of me bytes name b is =
    ap (λ t. t ++ (codes "_bucket{member=\"" ++ (decimal me ++ (codes "\",le=\"" ++ (decimal b.bound ++ (codes "\"} " ++
    (decimal b.count ++ feed))))))) is
    ∙ ap (λ t. name ++ (codes "_bucket{member=\"" ++ (decimal me ++ (codes "\",le=\"" ++ t))))
    (sym (append_assoc (decimal b.bound) (codes "\"") (codes "} " ++ (decimal b.count ++ feed))))

pub bucket_line : (me number : ℕ) (bytes name : List ℕ) (b : HistogramBucket) → number ≡ me → bytes ≡ name →
    bytes ++ (codes "_bucket{member=\"" ++ (decimal number ++ (codes "\",le=\"" ++ (decimal b.bound ++ (codes "\"} " ++
    (decimal b.count ++ (codes "\n" ++ []))))))) ≡ sample_text me name (bucket_sample b)
bucket_line me number bytes name b same is = rw same (bucket_line_of me bytes name b is)

-- the line of a version, in two parts
version_line_of : (me : ℕ) (bytes name version : List ℕ) → bytes ≡ name →
    (bytes ++ (codes "{member=\"" ++ (decimal me ++ (codes "\",version=\"" ++ [])))) ++
    (escaped version ++ codes "\"} 1\n") ≡ samples_text me name (version_sample version)
version_line_of me bytes name version is =
    let rest = escaped version ++ codes "\"} 1\n" in
    append_assoc bytes (codes "{member=\"" ++ (decimal me ++ (codes "\",version=\"" ++ []))) rest
    ∙ ap (λ t. bytes ++ (codes "{member=\"" ++ t)) (append_assoc (decimal me) (codes "\",version=\"" ++ []) rest)
    ∙ ap (λ t. t ++ (codes "{member=\"" ++ (decimal me ++ (codes "\",version=\"" ++ rest)))) is
    ∙ ap (λ t. name ++ (codes "{member=\"" ++ (decimal me ++ (codes "\",version=\"" ++ t))))
    (sym (append_assoc (escaped version) (codes "\"") (codes "} 1\n")))
    ∙ sym (append-nil (sample_text me name (record {
      suffix = [];
      labels = codes ",version=\"" ++ (escaped version ++ codes "\"");
      value = codes "1";
    })))

pub version_line : (me number : ℕ) (bytes name version : List ℕ) → number ≡ me → bytes ≡ name →
    (bytes ++ (codes "{member=\"" ++ (decimal number ++ (codes "\",version=\"" ++ [])))) ++
    (escaped version ++ codes "\"} 1\n") ≡ samples_text me name (version_sample version)
version_line me number bytes name version same is = rw same (version_line_of me bytes name version is)

-- the lines of some samples and of others
pub samples_append : (me : ℕ) (name : List ℕ) (some others : List Sample) →
    samples_text me name some ++ samples_text me name others ≡ samples_text me name (some ++ others)
samples_append me name [] others = refl
samples_append me name (sample ∷ some) others =
    append_assoc (sample_text me name sample) (samples_text me name some) (samples_text me name others)
    ∙ ap (λ t. sample_text me name sample ++ t) (samples_append me name some others)

pub wait_lines : (me : ℕ) (name : List ℕ) (w : Waits) →
    samples_text me name (map bucket_sample w.buckets) ++ samples_text me name (total_samples w) ≡
    samples_text me name (wait_samples w)
wait_lines me name w = samples_append me name (map bucket_sample w.buckets) (total_samples w)

-- the line of a member
figure_line_of : (me id n : ℕ) (bytes name labels : List ℕ) → bytes ≡ name →
    bytes ++ (codes "{member=\"" ++ (decimal me ++ (codes "\",id=\"" ++ (decimal id ++ (codes "\"" ++ (labels ++
    (codes "} " ++ (decimal n ++ (codes "\n" ++ []))))))))) ≡ samples_text me name (member_sample id labels n ∷ [])
figure_line_of me id n bytes name labels is =
    let rest = codes "} " ++ (decimal n ++ feed) in
    ap (λ t. t ++ (codes "{member=\"" ++ (decimal me ++ (codes "\",id=\"" ++ (decimal id ++ (codes "\"" ++ (labels ++
    rest))))))) is
    ∙ ap (λ t. name ++ (codes "{member=\"" ++ (decimal me ++ (codes "\",id=\"" ++ t))))
    (sym (append_assoc (decimal id) (codes "\"" ++ labels) rest))
    ∙ sym (append-nil (sample_text me name (member_sample id labels n)))

pub figure_line : (me number id other n : ℕ) (bytes name labels : List ℕ) → number ≡ me → other ≡ id → bytes ≡ name →
    bytes ++ (codes "{member=\"" ++ (decimal number ++ (codes "\",id=\"" ++ (decimal other ++ (codes "\"" ++ (labels ++
    (codes "} " ++ (decimal n ++ (codes "\n" ++ []))))))))) ≡ samples_text me name (member_sample id labels n ∷ [])
figure_line me number id other n bytes name labels same ids is =
    rw (same, ids) (figure_line_of me id n bytes name labels is)

-- the lines of the acks of a member
pub ack_lines : (me id directly by_relay : ℕ) (name : List ℕ) →
    samples_text me name (member_sample id (codes ",from=\"target\"") directly ∷ [])
    ++ samples_text me name (member_sample id (codes ",from=\"relay\"") by_relay ∷ [])
    ≡ samples_text me name (member_acks id directly by_relay)
ack_lines me id directly by_relay name =
    samples_append me name (member_sample id (codes ",from=\"target\"") directly ∷ [])
    (member_sample id (codes ",from=\"relay\"") by_relay ∷ [])

-- the line of a key
key_line_of : (me place : ℕ) (bytes name fingerprint : List ℕ) → bytes ≡ name →
    bytes ++ (codes "{member=\"" ++ (decimal me ++ (codes "\",place=\"" ++ (decimal place ++
    (codes "\",fingerprint=\"" ++ (fingerprint ++ (codes "\"} 1\n" ++ []))))))) ≡
    sample_text me name (key_sample place fingerprint)
key_line_of me place bytes name fingerprint is =
    let rest = codes "} 1\n" in
    ap (λ t. t ++ (codes "{member=\"" ++ (decimal me ++ (codes "\",place=\"" ++ (decimal place ++
    (codes "\",fingerprint=\"" ++ (fingerprint ++ (codes "\"" ++ rest)))))))) is
    ∙ ap (λ t. name ++ (codes "{member=\"" ++ (decimal me ++ (codes "\",place=\"" ++ (decimal place ++
    (codes "\",fingerprint=\"" ++ t))))))
    (sym (append_assoc fingerprint (codes "\"") rest))
    ∙ ap (λ t. name ++ (codes "{member=\"" ++ (decimal me ++ (codes "\",place=\"" ++ t))))
    (sym (append_assoc (decimal place) (codes "\",fingerprint=\"" ++ (fingerprint ++ codes "\"")) rest))

pub key_line : (me number place : ℕ) (bytes name fingerprint : List ℕ) → number ≡ me → bytes ≡ name →
    bytes ++ (codes "{member=\"" ++ (decimal number ++ (codes "\",place=\"" ++ (decimal place ++
    (codes "\",fingerprint=\"" ++ (fingerprint ++ (codes "\"} 1\n" ++ []))))))) ≡
    sample_text me name (key_sample place fingerprint)
key_line me number place bytes name fingerprint same is = rw same (key_line_of me place bytes name fingerprint is)

-- ---- the first and the others

same_first : {X : Type 0} (xs : List X) (d : X) → 1 ≤ length xs → get_or xs 0 d ≡ get_or xs 0 (get_or xs 0 d)
same_first [] d some = absurd (omega (arith, some))
same_first (x ∷ xs) d some = refl

pub first_line : {X : Type 0} (sample_of : X → Sample) (me : ℕ) (name : List ℕ) (xs : List X) (d : X) →
    1 ≤ length xs →
    sample_text me name (sample_of (get_or xs 0 d)) ++ samples_text me name (map sample_of (others_of xs)) ≡
    samples_text me name (map sample_of xs)
first_line sample_of me name xs d some =
    ap (λ l. samples_text me name (map sample_of l))
    (sym (first_and_others xs (get_or xs 0 d) some (same_first xs d some)))

pub first_member : (column : Column) (me : ℕ) (name : List ℕ) (rows : List MemberFigures) (first : MemberFigures) →
    1 ≤ length rows → first ≡ get_or rows 0 first →
    samples_text me name (column_of column first) ++ samples_text me name (member_samples column (others_of rows))
    ≡ samples_text me name (member_samples column rows)
first_member column me name rows first some is =
    samples_append me name (column_of column first) (member_samples column (others_of rows))
    ∙ ap (λ l. samples_text me name (member_samples column l)) (sym (first_and_others rows first some is))

pub first_key : (me : ℕ) (name : List ℕ) (before place : ℕ) (keys : List (List ℕ)) (d : List ℕ) →
    place ≡ suc before → 1 ≤ length keys →
    sample_text me name (key_sample place (get_or keys 0 d))
    ++ samples_text me name (key_samples place (others_of keys)) ≡ samples_text me name (key_samples before keys)
first_key me name before place keys d next some =
    rw next (ap (λ l. samples_text me name (key_samples before l))
    (sym (first_and_others keys (get_or keys 0 d) some (same_first keys d some))))

pub first_escaped : (text : List ℕ) (d : ℕ) → 1 ≤ length text →
    escaped_one (get_or text 0 d) ++ escaped (others_of text) ≡ escaped text
first_escaped text d some = ap escaped (sym (first_and_others text (get_or text 0 d) some (same_first text d some)))

-- ---- a metric, as it is written

pub lines_of : (me : ℕ) (name : List ℕ) (samples : List Sample) (f : Family) → name ≡ f.name → samples ≡ f.samples →
    samples_text me name samples ≡ family_lines me f
lines_of me name samples f names are = rw (names, are) refl

pub text_of : (me : ℕ) (name help : List ℕ) (kind : MetricKind) (samples : List Sample) (f : Family) → name ≡ f.name →
    help ≡ f.help → kind ≡ f.kind → samples ≡ f.samples →
    head_text name help kind ++ samples_text me name samples ≡ family_text me f
text_of me name help kind samples f names helps kinds are = rw (names, helps, kinds, are) refl

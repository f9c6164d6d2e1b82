-- A log of which nothing is taken holds no commits.
use Rattle.portal_os.proofs.Common.{◌≡◌, ℕ, ◌<◌, List, [], ◌∷◌, zero, suc, Some, None, inl, inr, sym, ◌∙◌}
use Rattle.portal_os.proofs.Common.{subst, arith, true≢false, length, Bool, IsTrue, Result, Ok, Err, IfOk}
use Rattle.portal_os.proofs.Common.{PageSize, bytes_of, IsPageSize, Names, be32, AreFramesOf, IsCommitted}
use Rattle.portal_os.proofs.Common.{IsIgnored, AreCommitted, HoldsCommits}
use Rattle.sqlite_wal.proofs.FormatLemmas.{be32-part}

pub not_ignored : (size frames : ℕ) (log : List ℕ) → 0 < frames
    → IsCommitted size log frames → ¬ IsIgnored log
not_ignored size frames log some committed (inl short) =
    absurd (omega (arith, (committed.valid 0 some).within, short))
not_ignored size frames log some committed (inr unsigned) = unsigned committed.head.signed

-- of a log with commits some frames are taken
none_taken : (size frames : ℕ) (log : List ℕ) → 0 < frames → IsCommitted size log frames
    → ¬ AreFramesOf size log []
none_taken size zero log some committed taken = absurd (omega (arith, some))
none_taken size (suc last) log some committed (inl ignored, each) =
    not_ignored size (suc last) log some committed ignored.0
none_taken size (suc last) log some committed (inr found, each) =
    committed.commits last (omega arith)
    (found.1.quiet last (omega arith) (λ i low. committed.valid i (omega (arith, low))))

pub some_taken : (size : ℕ) (log numbers : List ℕ) → AreFramesOf size log numbers
    → AreCommitted size log → 0 < length numbers
some_taken size log [] taken (frames, some, committed) =
    absurd (none_taken size frames log some committed taken)
some_taken size log (n ∷ more) taken committed = omega arith

-- the page size that its header names is the one of its frames
pub size_named : (log : List ℕ) (size : PageSize) → (¬ IsIgnored log → Names (Some size) (be32 log 8))
    → HoldsCommits log → AreCommitted (bytes_of size) log
size_named log size named (n, valid, (frames, some, committed)) =
    let read : be32 log 8 ≡ n = sym (be32-part log 0 32 8 (omega arith)) ∙ committed.head.size in
    let same : n ≡ bytes_of size = sym ((named (not_ignored n frames log some committed)).1 ∙ read) in
    subst (λ (m : ℕ). AreCommitted m log) same (frames, some, committed)

pub none_named : (log : List ℕ) → (¬ IsIgnored log → Names None (be32 log 8)) → ¬ HoldsCommits log
none_named log named (n, valid, (frames, some, committed)) =
    let read : be32 log 8 ≡ n = sym (be32-part log 0 32 8 (omega arith)) ∙ committed.head.size in
    true≢false
    (sym ((named (not_ignored n frames log some committed)).0.1 (subst IsPageSize (sym read) valid)))

-- what is taken of the log is what it holds
pub holds_on : {E : Type 0} (holds : Result Bool E) (LogIsClean AreClean : Type 0)
    (before log : List ℕ) (size : PageSize)
    → IfOk holds (λ b. LogIsClean → AreCommitted (bytes_of size) log → IsTrue b)
    → (AreClean → LogIsClean) → log ≡ before
    → (AreClean → ¬ IsIgnored before → Names (Some size) (be32 before 8))
    → IfOk holds (λ b. AreClean → HoldsCommits before → IsTrue b)
holds_on (Ok b) LogIsClean AreClean before log size taken clean same named = λ honest held.
    taken (clean honest)
    (subst (AreCommitted (bytes_of size)) (sym same) (size_named before size (named honest) held))
holds_on (Err e) LogIsClean AreClean before log size taken clean same named = tt

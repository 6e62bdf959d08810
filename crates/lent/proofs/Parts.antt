-- A header taken apart is the header.
-- Assumes nothing.
use Rattle.std.proofs.Common.{◌≡◌, ℕ, List, ap}
use Rattle.machine.specs.declared.Header.{Header}
use Rattle.machine.specs.declared.Processes.{Processes}
use Rattle.lent.specs.Parts.{machine_of, processes_of, parts}

pub whole : (core queue : List ℕ) (h : Header) {p : Processes} → p ≡ processes_of h → parts core queue h.rules h.names p ≡ machine_of core queue h
whole core queue h e = ap (parts core queue h.rules h.names) e

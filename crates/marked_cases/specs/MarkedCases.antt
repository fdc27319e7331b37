-- The marked cases of document 01, as document 02 changes them: one list of inputs and the text that each must give,
-- and that all are given.
use Rattle.std.specs.Prelude.{◌≡◌, List, [], ◌∷◌, ◌++◌, ℕ, suc}
use Rattle.records.specs.Marks.{ascii}
use Rattle.table_listing.specs.TableListing.{table_program}
use Rattle.run_listing.specs.RunListing.{run_program}
pub mod Laws

-- a program as a function of its input, an input, and the output that is due
pub record Case : Type 0 where
  pub program : List ℕ → List ℕ
  pub input : List ℕ
  pub output : List ℕ

-- the program gives the output for the input of every case
abbrev pub AllGiven : List Case → Type 0
AllGiven [] = Unit {0}
AllGiven (c ∷ cases) = (c.program c.input ≡ c.output) × AllGiven cases

-- ---- files, byte by byte

-- a set in the eight lowest drives
unfoldable pub sv : ℕ → List ℕ
sv low = ascii "SV" ++ (low ∷ 0 ∷ 0 ∷ 0 ∷ 0 ∷ 0 ∷ 0 ∷ 0 ∷ [])

-- n 6, sets 1, 2, 3c (document 000, example 2.2)
unfoldable pub file_a : List ℕ
file_a = ascii "FR" ++ (6 ∷ sv 1) ++ sv 2 ++ sv 0x3c ++ ascii "EN" ++ (3 ∷ [])

-- n 4, sets 7, b, c (document 002, example 3.3)
unfoldable pub file_c : List ℕ
file_c = ascii "FR" ++ (4 ∷ sv 7) ++ sv 0xb ++ sv 0xc ++ ascii "EN" ++ (3 ∷ [])

-- n 64, one set of all bits
unfoldable pub file_h : List ℕ
file_h = ascii "FR" ++ (64 ∷ ascii "SV") ++ (255 ∷ 255 ∷ 255 ∷ 255 ∷ 255 ∷ 255 ∷ 255 ∷ 255 ∷ []) ++ ascii "EN" ++ (1 ∷ [])

-- n 65
unfoldable pub file_i : List ℕ
file_i = ascii "FR" ++ (65 ∷ sv 1) ++ ascii "EN" ++ (1 ∷ [])

-- pattern numbers below 256, drives 1, 2, .. in order
unfoldable pub prs : ℕ → List ℕ → List ℕ
prs drive [] = []
prs drive (v ∷ vs) = ascii "PR" ++ (drive ∷ v ∷ 0 ∷ prs (suc drive) vs)

unfoldable pub cr : ℕ → ℕ → ℕ → List ℕ
cr drive round sends = ascii "CR" ++ (drive ∷ round ∷ sends ∷ [])

-- the table of case A, then a run file with the pattern numbers of case B and so many CR records
unfoldable pub on_a : ℕ → List ℕ → List ℕ
on_a count crs = file_a ++ prs 1 (7 ∷ 5 ∷ 9 ∷ 1 ∷ 1 ∷ 1 ∷ []) ++ crs ++ ascii "EN" ++ (count ∷ [])

-- n 1, set 1, and behind it a pattern number
unfoldable pub file_j : List ℕ
file_j = ascii "FR" ++ (1 ∷ sv 1) ++ ascii "EN" ++ (1 ∷ [])

unfoldable pub run_j : List ℕ
run_j = file_j ++ prs 1 (4 ∷ []) ++ ascii "EN" ++ (0 ∷ [])

-- ---- the cases

unfoldable pub marked : List Case
marked =
    record {
      program = table_program;
      input = file_a;
      output = ascii "drives 6\nset 1\nset 2\nset 3c\ncore 7\ncore b\ncore 13\ncore 23\nchosen 7\nk 2 no sets 1 2 blocks 3e 1\nk 3 no sets 1 1 2 blocks 3c 2 1\nk 4 no sets 1 1 1 2 blocks 38 2 4 1\n";
    }
    ∷ record {
      program = table_program;
      input = file_c;
      output = ascii "drives 4\nset 7\nset b\nset c\ncore 5\ncore 9\ncore 6\ncore a\ncore c\nchosen 5\nk 2 yes\nk 3 no sets 1 2 3 blocks 8 4 3\nk 4 few\n";
    }
    ∷ record {
      program = table_program;
      input = file_h;
      output = ascii "drives 64\nset ffffffffffffffff\ncore 1\ncore 2\ncore 4\ncore 8\ncore 10\ncore 20\ncore 40\ncore 80\ncore 100\ncore 200\ncore 400\ncore 800\ncore 1000\ncore 2000\ncore 4000\ncore 8000\ncore 10000\ncore 20000\ncore 40000\ncore 80000\ncore 100000\ncore 200000\ncore 400000\ncore 800000\ncore 1000000\ncore 2000000\ncore 4000000\ncore 8000000\ncore 10000000\ncore 20000000\ncore 40000000\ncore 80000000\ncore 100000000\ncore 200000000\ncore 400000000\ncore 800000000\ncore 1000000000\ncore 2000000000\ncore 4000000000\ncore 8000000000\ncore 10000000000\ncore 20000000000\ncore 40000000000\ncore 80000000000\ncore 100000000000\ncore 200000000000\ncore 400000000000\ncore 800000000000\ncore 1000000000000\ncore 2000000000000\ncore 4000000000000\ncore 8000000000000\ncore 10000000000000\ncore 20000000000000\ncore 40000000000000\ncore 80000000000000\ncore 100000000000000\ncore 200000000000000\ncore 400000000000000\ncore 800000000000000\ncore 1000000000000000\ncore 2000000000000000\ncore 4000000000000000\ncore 8000000000000000\nchosen 1\nk 2 yes\nk 3 yes\nk 4 yes\n";
    }
    ∷ record { program = table_program; input = file_i; output = ascii "refused 3\n" }
    ∷ record {
      program = run_program;
      input = on_a 1 (cr 2 1 1);
      output = ascii "drive 1 decides 5 round 1\ndrive 2 stopped\ndrive 3 decides 5 round 2\ndrive 4 decides 5 round 2\ndrive 5 decides 5 round 2\ndrive 6 decides 5 round 2\ncore 7 stops 1\n";
    }
    ∷ record {
      program = run_program;
      input = on_a 1 (cr 2 1 0);
      output = ascii "drive 1 decides 7 round 2\ndrive 2 stopped\ndrive 3 decides 7 round 2\ndrive 4 decides 7 round 2\ndrive 5 decides 7 round 2\ndrive 6 decides 7 round 2\ncore 7 stops 1\n";
    }
    ∷ record {
      program = run_program;
      input = on_a 1 (cr 2 1 3);
      output = ascii "drive 1 decides 5 round 1\ndrive 2 stopped\ndrive 3 decides 5 round 1\ndrive 4 decides 5 round 1\ndrive 5 decides 5 round 2\ndrive 6 decides 5 round 2\ncore 7 stops 1\n";
    }
    ∷ record {
      program = run_program;
      input = on_a 2 (cr 1 1 0 ++ cr 2 2 0);
      output = ascii "drive 1 stopped\ndrive 2 stopped\ndrive 3 decides 5 round 3\ndrive 4 decides 5 round 3\ndrive 5 decides 5 round 3\ndrive 6 decides 5 round 3\ncore 7 stops 2\n";
    }
    ∷ record { program = run_program; input = on_a 3 (cr 1 1 0 ++ cr 2 1 0 ++ cr 3 1 0); output = ascii "refused 11\n" }
    ∷ record { program = table_program; input = file_j; output = ascii "drives 1\nset 1\ncore 1\nchosen 1\nk 2 few\nk 3 few\nk 4 few\n" }
    ∷ record { program = run_program; input = run_j; output = ascii "drive 1 decides 4 round 1\ncore 1 stops 0\n" }
    ∷ []

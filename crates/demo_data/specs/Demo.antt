-- The demonstration: its script, and the files of its folder.
use Rattle.std.specs.Prelude.{ℕ, ◌*◌, ◌%◌, List, [], ◌∷◌, ◌++◌, codes, decimal}
use Rattle.std.specs.List.{flat_map, range_with_len}
use Rattle.std.specs.FinMap as finite
use Rattle.outside_io.specs.Files.{Files}

-- the greatest number of a demonstration
abbrev pub greatest_demo : ℕ
greatest_demo = 2000

-- the script
abbrev pub demo_script : List ℕ
demo_script =
    codes "CREATE TABLE C (K INTEGER NOT NULL, G INTEGER);\n"
    ++ codes "CREATE TABLE O (K INTEGER NOT NULL, C INTEGER);\n"
    ++ codes "CREATE TABLE L (O INTEGER, Q INTEGER);\n"
    ++ codes "LOAD 'c.csv' INTO C;\n"
    ++ codes "LOAD 'o.csv' INTO O;\n"
    ++ codes "LOAD 'l.csv' INTO L;\n"
    ++ codes "CREATE INDEX CK ON C (K);\n"
    ++ codes "CREATE INDEX OK ON O (K);\n"
    ++ codes "CREATE INDEX OC ON O (C);\n"
    ++ codes "CREATE INDEX LO ON L (O);\n"
    ++ codes "SELECT C.K, O.K, L.Q FROM C, O, L WHERE C.K = O.C AND O.K = L.O AND C.K = 13 AND L.Q = 13;\n"

-- an entry of two numbers, as a line of a file
abbrev pub entry_line : ℕ → ℕ → List ℕ
entry_line first second = decimal first ++ codes "," ++ decimal second ++ codes "\n"

-- a file of so many entries behind its header, the first of them entry 0
abbrev pub file_of_entries : List ℕ → ℕ → (ℕ → List ℕ) → List ℕ
file_of_entries header count line = header ++ flat_map line (range_with_len 0 count)

-- the customers of this number
abbrev pub customers_file : ℕ → List ℕ
customers_file n = file_of_entries (codes "K,G\n") (50 * n) (λ i. entry_line i (i % 10))

-- the orders of this number, each of a customer
abbrev pub orders_file : ℕ → List ℕ
orders_file n = file_of_entries (codes "K,C\n") (200 * n) (λ i. entry_line i (i % (50 * n)))

-- the lines of orders of this number, each of an order
abbrev pub lines_file : ℕ → List ℕ
lines_file n = file_of_entries (codes "O,Q\n") (400 * n) (λ i. entry_line (i % (200 * n)) (i % 50))

-- the folder of this number: these three files alone
abbrev pub demo_files : ℕ → Files
demo_files n = finite.from_entries (
    (codes "c.csv", customers_file n)
    ∷ (codes "o.csv", orders_file n)
    ∷ (codes "l.csv", lines_file n)
    ∷ [])
